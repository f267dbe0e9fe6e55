pub mod Promise
pub mod Whole

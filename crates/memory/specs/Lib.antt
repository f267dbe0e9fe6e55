pub mod Keeping
pub mod Ranges
pub mod Opening

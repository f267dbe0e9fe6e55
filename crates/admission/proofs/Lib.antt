pub mod Refusals
pub mod Named

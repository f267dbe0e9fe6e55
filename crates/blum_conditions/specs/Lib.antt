pub mod Adds
pub mod Evicts
pub mod Links

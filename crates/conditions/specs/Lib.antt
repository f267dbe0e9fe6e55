pub mod Evicts
pub mod Ways
pub mod Adds

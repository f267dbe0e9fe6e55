pub mod Summing
pub mod Settling

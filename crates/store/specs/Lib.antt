pub mod Holding
pub mod Stores

pub mod Wrote
pub mod Written

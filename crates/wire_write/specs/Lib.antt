pub mod Lengths
pub mod Written
pub mod Page

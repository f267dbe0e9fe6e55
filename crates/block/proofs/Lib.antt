pub mod Framed
pub mod Opened
pub mod Written

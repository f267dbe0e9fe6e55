pub mod Stepped
pub mod Called
pub mod Told

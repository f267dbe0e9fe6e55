pub mod Lists
pub mod Waiting
pub mod Again
pub mod Summed
mod Passed
mod Certified

pub mod Read
pub mod Quiet

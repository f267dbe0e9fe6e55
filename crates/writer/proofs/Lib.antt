pub mod Bytes
pub mod Joined

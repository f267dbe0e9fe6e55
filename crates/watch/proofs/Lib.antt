pub mod Responses
pub mod Lengths
pub mod Kept
pub mod Faith

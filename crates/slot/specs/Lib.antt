pub mod Parts
pub mod Layout
pub mod Finds
pub mod Edits
pub mod Meant

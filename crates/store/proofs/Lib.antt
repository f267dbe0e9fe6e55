pub mod Members
pub mod Walks
pub mod Held
pub mod Edits
pub mod Opened
pub mod Lent
pub mod Asked

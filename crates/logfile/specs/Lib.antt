-- What the contracts of this crate cite.
pub mod FirstLine
pub mod Frames

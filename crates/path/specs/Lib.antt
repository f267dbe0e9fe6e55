pub mod Packs
pub mod Sides
pub mod Times

pub mod Same
pub mod Words
pub mod Below
pub mod Less
pub mod Past
pub mod Sided

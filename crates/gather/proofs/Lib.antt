pub mod Eights
pub mod Pointers
pub mod Recorded

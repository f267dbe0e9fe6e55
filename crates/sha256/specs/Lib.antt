pub mod Parts
pub mod Limbs
pub mod View

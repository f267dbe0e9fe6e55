-- Lemmas of this crate.
pub mod Appended

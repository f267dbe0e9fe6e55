-- Lemmas of this crate.
mod Digits
mod ReadBack
mod ReadOnly

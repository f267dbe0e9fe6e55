pub mod Spans
pub mod Verifiers
pub mod Framed
pub mod Bounds
pub mod Opened

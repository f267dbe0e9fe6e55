pub mod Tests
pub mod Evicted
pub mod Added

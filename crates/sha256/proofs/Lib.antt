pub mod Bits
pub mod Loading
pub mod Schedule
pub mod Lanes
pub mod Rounds
pub mod Padding
pub mod Output

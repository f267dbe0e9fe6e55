pub mod Ones
pub mod Joined
pub mod Gather
pub mod Filled
pub mod Swapped
pub mod Spread

pub mod Placed
pub mod Priority
pub mod Timing

-- Hand-written laws of the crate that belong to no one function.
pub mod Durations
pub mod Picks
pub mod Timings
pub mod Schedules

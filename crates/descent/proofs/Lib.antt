-- Hand-written laws of the crate that belong to no one function.
pub mod Words
pub mod Runs
pub mod Spans
pub mod Links
pub mod Skips
pub mod Steps

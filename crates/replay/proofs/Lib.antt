-- Hand-written laws of the crate that belong to no one function.
pub mod CallChecks
pub mod Words
pub mod Replays

-- Hand-written laws of the crate that belong to no one function.
pub mod Calls
pub mod Lines
pub mod Scans

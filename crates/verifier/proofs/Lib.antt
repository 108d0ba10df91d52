-- Hand-written laws of the crate that belong to no one function.
pub mod Starts
pub mod Proposals
pub mod Legal
pub mod Pairs

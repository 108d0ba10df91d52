-- Hand-written laws of the crate that belong to no one function.
pub mod Puts
pub mod Places

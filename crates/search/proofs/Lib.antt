-- Hand-written laws of the crate that belong to no one function.
pub mod Sweeps
pub mod Requests
pub mod Tops
pub mod Attempts
pub mod Promises

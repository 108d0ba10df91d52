-- Hand-written laws of the crate that belong to no one function.
pub mod Plans
pub mod Lists
pub mod Answers

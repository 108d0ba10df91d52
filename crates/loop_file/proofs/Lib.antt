-- Hand-written laws of the crate that belong to no one function.
pub mod CheckAnswers
pub mod Tables
pub mod FileChecks
pub mod Answers
pub mod Sections

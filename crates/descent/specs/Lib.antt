pub mod Descent
pub mod Links
pub mod Skip
pub mod Span
pub mod Tree

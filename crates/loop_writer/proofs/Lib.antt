-- Laws of the writer's functions.
pub mod Ranges
pub mod Tables
pub mod Uses
pub mod Rows
pub mod Buffers
pub mod Answers
pub mod Promises

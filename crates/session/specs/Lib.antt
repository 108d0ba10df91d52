pub mod Call
pub mod View
pub mod Undo

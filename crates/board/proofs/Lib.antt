-- Hand-written laws of the crate that belong to no one function.
pub mod Readings
pub mod Boards
pub mod Refusals
pub mod Effects
pub mod Hits
pub mod Obstacles
pub mod Rollback

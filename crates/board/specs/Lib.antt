pub mod Board
pub mod Checks
pub mod Moves

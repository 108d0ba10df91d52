pub mod Replay
pub mod Words

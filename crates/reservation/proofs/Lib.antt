-- Hand-written laws of the crate that belong to no one function.
pub mod Ranges
pub mod Bits
pub mod RowUpdates
pub mod UseNumbers
pub mod Tables
pub mod Free
pub mod Seats
pub mod Breaches
pub mod TakenCells
pub mod Fits
pub mod Overlaps
pub mod Stores
pub mod Placings

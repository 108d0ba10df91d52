pub mod Rows
pub mod Place
pub mod Seats
pub mod Overlaps

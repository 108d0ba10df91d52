pub mod Loops
pub mod Random
pub mod Drawn
pub mod Picture
pub mod Lists
pub mod Tally

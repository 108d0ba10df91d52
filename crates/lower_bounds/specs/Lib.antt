pub mod Walks
pub mod Quotient
pub mod Rounds
pub mod Answer

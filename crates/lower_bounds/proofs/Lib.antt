-- Hand-written laws of the crate that belong to no one function.
pub mod Hole
pub mod Rounds
pub mod Trail
pub mod Values
pub mod Bound
pub mod Arrays
pub mod Bisection
pub mod Answers
pub mod AllUses
pub mod Slots
pub mod Necessity

pub mod Admitted
pub mod Answer
pub mod Demand2
pub mod Sweep
pub mod Unsolved

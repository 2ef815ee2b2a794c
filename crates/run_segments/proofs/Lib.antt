pub mod Extended
pub mod Gapless
pub mod Marked
pub mod Placed
pub mod Recorded
pub mod Runs
pub mod Steps

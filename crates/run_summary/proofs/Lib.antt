pub mod Plays
pub mod Counts
pub mod Drained
pub mod Waited

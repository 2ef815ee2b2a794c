pub mod Endings
pub mod Playable
pub mod Asked
pub mod Drills
mod Runs
mod Totals
mod Outputs
pub mod Openings
pub mod Writes
pub mod Upgrading
pub mod Checking

pub mod Draws
pub mod Drill
pub mod Summary

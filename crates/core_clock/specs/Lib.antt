pub mod Moments
pub mod Time

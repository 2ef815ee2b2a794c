pub mod Inputs
pub mod Stops
pub mod Completes
pub mod Lines
pub mod FirstBad

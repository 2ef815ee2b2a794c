pub mod Scripts
pub mod Turns
pub mod Scripted

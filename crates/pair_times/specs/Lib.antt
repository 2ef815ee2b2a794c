pub mod Pairs
pub mod Added

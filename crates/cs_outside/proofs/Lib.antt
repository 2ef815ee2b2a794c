pub mod Gathers
pub mod Pieces
pub mod Written
pub mod Reached
pub mod Lots

pub mod Drawn
mod Nice
mod Pieces
mod Summaries
mod Tallies
pub mod Valid

pub mod Own
pub mod Placed
pub mod Whole
pub mod Workers
pub mod Listed
pub mod Fewer
pub mod Played

pub mod Kept
pub mod Segments

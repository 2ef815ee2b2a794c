pub mod Pieces
pub mod Left
pub mod Rows

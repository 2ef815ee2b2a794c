pub mod Cells
pub mod Json
pub mod Table

pub mod Waits
pub mod Rows

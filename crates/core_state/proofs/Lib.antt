pub mod Crosses
pub mod Compared

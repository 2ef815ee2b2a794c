pub mod Doing
pub mod Times
pub mod Sums

pub mod Plain
pub mod Parses
pub mod Read
pub mod Found
pub mod Seeds

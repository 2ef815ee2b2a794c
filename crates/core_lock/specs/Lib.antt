pub mod Lists
pub mod Board
pub mod Passes

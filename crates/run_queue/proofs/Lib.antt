mod Seats
mod Runs
mod Fair
pub mod Ties
pub mod Tops
pub mod Anew

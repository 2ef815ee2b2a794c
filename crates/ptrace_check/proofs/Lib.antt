pub mod Askings
pub mod Benches
pub mod Decisions
pub mod Loads
pub mod Seats

pub mod Kinds
pub mod Held
pub mod Comparisons
pub mod Renewed
pub mod Arrivals

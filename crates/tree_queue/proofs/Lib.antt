pub mod Tasks
pub mod Made
pub mod Splits
pub mod Held
pub mod Asked
pub mod Vtimes
pub mod Counts
pub mod Crosses
pub mod Compared
pub mod Firsts
pub mod Moved
pub mod Parts
pub mod Told
mod Begins

pub mod Order
pub mod Branch
pub mod Balance
pub mod Inside
pub mod Renamed
pub mod Rank
pub mod Recent
pub mod Anew

pub mod Changes
pub mod Growth
pub mod Clocks
pub mod Peers

pub mod Outcomes
pub mod Upgrades
pub mod Checks
pub mod Ends
pub mod Written

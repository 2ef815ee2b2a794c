mod Joined
mod Own
pub mod Counted
pub mod Items
pub mod Upgrades

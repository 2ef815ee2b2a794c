pub mod Guard
pub mod Memory

pub mod Order
pub mod Once
pub mod Among
pub mod Ran
pub mod Runs
pub mod Laws

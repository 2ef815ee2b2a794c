pub mod Race
pub mod Working

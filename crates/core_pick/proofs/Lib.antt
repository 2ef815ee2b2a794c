pub mod Choices
pub mod Remembered
pub mod Ranges
pub mod Leads
pub mod Cases
pub mod Asked
mod Noted

pub mod Schedules
pub mod Choice
pub mod Comparisons
pub mod Questions

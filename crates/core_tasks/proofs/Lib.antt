pub mod States
pub mod Known
pub mod Starts
pub mod Lives
pub mod Runners
pub mod Settings
pub mod Counted
pub mod Pending

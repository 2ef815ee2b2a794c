pub mod State
pub mod Steps
pub mod Start
pub mod Life
pub mod Cookies
pub mod Drain

pub mod Cookies
pub mod Found
pub mod Asked

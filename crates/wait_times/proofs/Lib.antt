pub mod Running
pub mod Lists
pub mod Looks
pub mod SoFar
pub mod Woken
pub mod Awake
pub mod Waited

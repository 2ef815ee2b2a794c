pub mod Words
pub mod Text
pub mod Grammar
pub mod Faults
pub mod Reader
pub mod Reading
pub mod Entry
pub mod Upgrade

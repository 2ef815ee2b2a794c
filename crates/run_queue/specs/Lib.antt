pub mod Classes
pub mod Run
pub mod Fair
pub mod Anew

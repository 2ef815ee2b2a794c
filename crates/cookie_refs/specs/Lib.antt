pub mod Refs
pub mod Inside

pub mod Answers
pub mod Guards
pub mod Inside

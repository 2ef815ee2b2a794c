pub mod Account
pub mod Inside

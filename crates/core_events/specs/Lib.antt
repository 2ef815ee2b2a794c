pub mod Ready
pub mod Comparisons
pub mod Machine
pub mod Inside
pub mod Tried

pub mod Inside
pub mod Anew
pub mod Spotted

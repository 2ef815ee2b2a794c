pub mod Input
pub mod Teaching
pub mod Stop
pub mod Exit

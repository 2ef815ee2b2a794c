pub mod Leaves
pub mod Hotplugs

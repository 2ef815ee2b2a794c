pub mod Counts
pub mod LiveCookies
pub mod Agreements
pub mod Changes

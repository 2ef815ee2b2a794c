pub mod Ranks
pub mod Leads
pub mod Firsts

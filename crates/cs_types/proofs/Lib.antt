pub mod Lists
pub mod Foremost
pub mod Filtered
pub mod Inserted
pub mod Growth
pub mod Queues
pub mod Codes
pub mod Comparisons

pub mod Replies
pub mod Summaries

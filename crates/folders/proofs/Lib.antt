pub mod Ranked
pub mod Searched
pub mod Replies

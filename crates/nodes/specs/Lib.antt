pub mod Tree
pub mod Holding
pub mod Summaries
pub mod Rules
pub mod Hits

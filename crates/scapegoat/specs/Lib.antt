pub mod Heavy
pub mod Renewed
pub mod Growth

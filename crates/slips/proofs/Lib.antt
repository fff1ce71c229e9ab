pub mod Dated
pub mod Going

pub mod Growth
pub mod Loss

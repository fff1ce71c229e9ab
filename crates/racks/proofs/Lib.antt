pub mod Rotated
pub mod Found

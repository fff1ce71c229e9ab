pub mod Structures
pub mod Operations
pub mod Depths

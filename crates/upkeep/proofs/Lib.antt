pub mod Depths
pub mod Regrown

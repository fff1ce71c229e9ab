pub mod Lasts
pub mod Ranks
pub mod Keys

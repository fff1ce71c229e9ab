pub mod Nths
pub mod Held
pub mod Parts
pub mod Places
pub mod Fronts
pub mod Hunts
pub mod Marked
pub mod Quests

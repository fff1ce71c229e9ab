pub mod Slots
pub mod Ranges
pub mod Plans
pub mod Builds
pub mod Building
pub mod Labels
pub mod Heights

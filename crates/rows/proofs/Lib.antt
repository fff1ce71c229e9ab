pub mod Stamps
pub mod Shares
pub mod LowLaws
pub mod LowPlaces
pub mod Extremes

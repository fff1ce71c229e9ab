pub mod Framing
pub mod Grafts
pub mod Descents
pub mod Growths
pub mod Swaps
pub mod Losses
pub mod Chaining

pub mod Ahead
pub mod ByReplay
pub mod Placed
pub mod RackRules

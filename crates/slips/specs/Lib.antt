pub mod Enter
pub mod Into
pub mod Plan

pub mod Reading
pub mod Rules
pub mod Growing
pub mod Losing
pub mod Emptying
pub mod Deepness

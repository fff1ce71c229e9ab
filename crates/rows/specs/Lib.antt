pub mod Tallies
pub mod Sums
pub mod Probes

pub mod Full
pub mod Gathered
pub mod LargestExcess
pub mod Lengths
pub mod Writing

pub mod Bits
pub mod Counts
pub mod Summed
pub mod Asked
pub mod Example

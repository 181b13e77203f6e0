pub mod Bits
pub mod Stages
pub mod Cleared
pub mod Kept
pub mod Asked
mod Example

pub mod Fields
pub mod Held
mod Example
pub mod Applied
pub mod Lengths

pub mod Along
pub mod Three
pub mod Quiet
pub mod Full
pub mod Parts
mod Example

pub mod Runs
pub mod Records
pub mod Turns
pub mod Updates
pub mod Parts
pub mod Going

pub mod Loops
pub mod Turns
pub mod Writes

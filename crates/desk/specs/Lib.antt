pub mod Heads
pub mod Fresh
pub mod Register
pub mod Rename

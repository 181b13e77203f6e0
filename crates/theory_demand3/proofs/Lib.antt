pub mod Scripts
pub mod Reading
pub mod Counts
pub mod Inside
pub mod Wrong
pub mod Theorem

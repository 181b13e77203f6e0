pub mod Converted
pub mod Counts
pub mod Queued
pub mod Lanes
pub mod Meets

pub mod Judged
pub mod Runs

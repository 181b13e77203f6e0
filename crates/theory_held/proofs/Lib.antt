pub mod Held
mod Stages
pub mod Since

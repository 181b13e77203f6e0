pub mod Refused
pub mod Account
mod Example

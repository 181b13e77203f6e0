pub mod Rule
mod Example
pub mod Lemmas
pub mod Played
pub mod Pumps

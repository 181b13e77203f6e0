pub mod Lemmas
pub mod Pumps
pub mod Demand
pub mod Directions
pub mod Repeated

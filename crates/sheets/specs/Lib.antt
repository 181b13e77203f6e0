pub mod Spread
pub mod Laws

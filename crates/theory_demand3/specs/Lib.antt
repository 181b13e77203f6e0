pub mod Demand3
pub mod Listed
pub mod Converting
pub mod Before
pub mod Example
pub mod Wrong

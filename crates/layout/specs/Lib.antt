pub mod Good
pub mod Rows
pub mod Renames
pub mod Order
pub mod Laid
pub mod Laying

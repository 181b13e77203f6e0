pub mod Tabled
pub mod Columns
pub mod Stores
pub mod Packed
pub mod Blank

pub mod Pieces
pub mod Words
pub mod Examples

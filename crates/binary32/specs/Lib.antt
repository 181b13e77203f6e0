pub mod Units
pub mod WholeRoot
pub mod Newton
pub mod Leading
pub mod Patterns
pub mod Values
pub mod Nearest
pub mod Bounds

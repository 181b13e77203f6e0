pub mod Coded
pub mod Taking

pub mod Dump
pub mod Examples

pub mod Log
pub mod Bounds
pub mod Ends

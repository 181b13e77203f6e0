pub mod Arrays
pub mod Found
pub mod Search
pub mod Lookup
pub mod Rising

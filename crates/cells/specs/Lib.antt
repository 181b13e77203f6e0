pub mod Seen
pub mod Settled

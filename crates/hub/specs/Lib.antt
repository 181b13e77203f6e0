pub mod Heads
pub mod Lent
pub mod OneToOne
pub mod Holding

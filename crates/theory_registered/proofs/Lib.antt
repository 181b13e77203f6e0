pub mod Pads
pub mod Axes
pub mod Triggers

pub mod Down
pub mod Bits

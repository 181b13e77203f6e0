pub mod Opcodes
pub mod Payload
pub mod Told

pub mod Refused
pub mod Account
pub mod Mark

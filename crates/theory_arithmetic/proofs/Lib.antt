pub mod ProperDeadzone
pub mod Deadzone
pub mod Trigger

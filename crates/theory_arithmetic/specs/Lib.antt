mod WorkedRepeats
pub mod Worked
pub mod Units
pub mod Rounding
pub mod Operations
pub mod Factor
pub mod Larger
pub mod Ends
pub mod Magnitude
pub mod Deadzone
pub mod Kept
pub mod Unmoved
pub mod FullTilt
pub mod Proper
pub mod Trigger

-- What the statements beside this folder are proved by, of the records that are taken, from the ground up; the rest stands in `specs/Lemmas`.
pub mod Records
pub mod Concerned
pub mod Codes
pub mod Hats
pub mod Dpad
pub mod Opposites

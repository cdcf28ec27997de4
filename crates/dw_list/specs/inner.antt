-- Definitions that only relate the code to the public ones: no contract of a public call names them.
pub mod Tasks
pub mod Ways
pub mod Steps
pub mod LineWalk
pub mod StackWalk
pub mod Levels
pub mod LineStackCodes

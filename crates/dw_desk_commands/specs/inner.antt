-- Definitions that only relate the code to the public ones: no public contract names them, except sealed ones.
pub mod Choosing
pub mod Comparing
pub mod Faults
pub mod LaterTold
pub mod NextGame
pub mod Repeating
pub mod Searching
pub mod Standing
pub mod Tallies

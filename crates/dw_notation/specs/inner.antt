-- Definitions that only relate the code to the public ones: no public contract names them, except sealed ones.
pub mod MoveReader
pub mod TextLines
pub mod Ahead
pub mod Sections
pub mod HeldSection
pub mod Tags
pub mod TagReading
pub mod Pieces
pub mod Problems
pub mod Cutting
pub mod Readers
pub mod LineWords
pub mod WrittenMoves
pub mod LineCodes
pub mod Writes
pub mod StreamLemmas

-- Definitions that only relate the code to the public ones: no public contract names them, except sealed ones.
pub mod Classes
pub mod Ahead
pub mod Branches
pub mod TreeCodes
pub mod Reading
pub mod Refusals
pub mod Noting
pub mod Keeping
pub mod Playing
pub mod Sectioning
pub mod GameReaders
pub mod LineReading

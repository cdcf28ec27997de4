-- Definitions that only relate the code to the public ones: no public contract names them, except sealed ones.
pub mod Keys

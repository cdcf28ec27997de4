-- Definitions that only relate the code to the public ones: no public contract names them.
pub mod Looking
pub mod Checking
pub mod Beginnings

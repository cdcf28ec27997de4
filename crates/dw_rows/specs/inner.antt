-- Definitions that only relate the code to the public ones: no public contract names them.
pub mod Remarking
pub mod SayingLemmas

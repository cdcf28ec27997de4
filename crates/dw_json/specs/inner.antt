-- Definitions that only relate the code to the public ones: no contract of a public call names them.
pub mod Composing

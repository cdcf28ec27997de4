-- Definitions that only relate the code to the public ones: no contract of a public call names them.
pub mod MemberLemmas
pub mod Walks
pub mod LexLemmas
pub mod Glance
pub mod Plain
pub mod Shelter
pub mod MoveLemmas
pub mod OneListLemmas

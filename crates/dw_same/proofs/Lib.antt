pub mod TurnLemmas
pub mod IndexLemmas

pub mod EffectLemmas
pub mod TextLemmas
pub mod LawLemmas
pub mod LaterLemmas

pub mod ListLemmas
pub mod ChangeLemmas
pub mod MakingLemmas
pub mod SoundLemmas
pub mod TextLemmas
pub mod MendLemmas

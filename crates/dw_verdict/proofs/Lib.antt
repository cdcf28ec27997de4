pub mod ChoiceLemmas
pub mod VerdictLemmas
pub mod KeyListLemmas
pub mod RefutingLemmas
pub mod TryListLemmas
pub mod ChoiceLoopLemmas

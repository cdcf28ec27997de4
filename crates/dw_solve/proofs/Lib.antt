mod WinLemmas
mod FactLemmas
mod LastMoveLemmas
mod MemoLemmas
pub mod CountingLemmas
pub mod WorkLemmas
pub mod RankLemmas
pub mod TriedLemmas
pub mod SearchLemmas
pub mod StepLemmas
pub mod OpenLemmas

pub mod EscapingLemmas
pub mod DrawingLemmas
pub mod JoinLemmas
pub mod RowLemmas

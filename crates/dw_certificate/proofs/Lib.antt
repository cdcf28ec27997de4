pub mod RowLemmas
pub mod PositionLemmas
pub mod SupportLemmas
pub mod ClosedLemmas
pub mod TextLemmas

pub mod FirstMovesRow
pub mod CheckRow
pub mod SolutionRow
pub mod inner

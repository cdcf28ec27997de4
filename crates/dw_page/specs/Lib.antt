pub mod Drawing
pub mod Escaping
pub mod EscapingLaws
pub mod Pages
pub mod Pictures
pub mod SolutionMoves
pub mod Words

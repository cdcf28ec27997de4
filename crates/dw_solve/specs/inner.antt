-- Definitions that only relate the code to the public ones: no contract of a public call names them.
pub mod Ranking
pub mod Searching
pub mod LineLemmas
pub mod LineOrderLemmas
pub mod ListLemmas
pub mod QuestionLemmas
pub mod CountLemmas

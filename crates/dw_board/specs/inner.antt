-- Definitions that only relate the code to the public ones: no contract of a public call names them.
pub mod BoardLemmas
pub mod Drawing
pub mod FenBlanks
pub mod FenReader
pub mod FenReading
pub mod GeometryLemmas
pub mod Held
pub mod Mixing
pub mod PieceSetLemmas
pub mod PlacementLemmas
pub mod Shifting
pub mod Sliding
pub mod SquareSetLemmas

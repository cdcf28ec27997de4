pub mod FirstMoves
pub mod FirstMovesText
pub mod Later
pub mod LaterText
pub mod Telling
pub mod Laws
pub mod inner

-- What only relates the code to the definitions: no contract of a public call names it.
pub mod EffectCodes
pub mod EffectMoves
pub mod LaterMoves

pub mod Moves
pub mod Order
pub mod Laws
pub mod Replies
pub mod WorkedPositions
pub mod inner

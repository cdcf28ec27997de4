pub mod Tree
pub mod Words
pub mod FirstLines
pub mod Movetext
pub mod Placed
pub mod Telling
pub mod Laws
pub mod inner

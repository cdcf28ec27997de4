pub mod Changes
pub mod Telling
pub mod Mending
pub mod MendText
pub mod Laws
pub mod inner

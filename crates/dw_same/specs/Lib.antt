pub mod Laws
pub mod RepeatText
pub mod Repeats
pub mod Turning
pub mod inner

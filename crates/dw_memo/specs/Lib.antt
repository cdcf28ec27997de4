pub mod Bounding
pub mod Choice
pub mod Content
pub mod Noting
pub mod Holding
pub mod Recent
pub mod inner

pub mod Ending
pub mod Reports

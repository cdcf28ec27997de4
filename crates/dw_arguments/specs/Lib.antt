pub mod Choices
pub mod Options
pub mod Numbers
pub mod Commands
pub mod ReportCommands
pub mod DeskCommands

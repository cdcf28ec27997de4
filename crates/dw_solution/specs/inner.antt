-- Definitions that only relate the code to the public ones: no public contract names them, except sealed ones.
pub mod Steps
pub mod LineTreeCodes
pub mod FirstLineCodes
pub mod Taking
pub mod Feeds
pub mod Drafts

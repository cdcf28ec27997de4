pub mod Verdict
pub mod VerdictLaws
pub mod Judging
pub mod inner

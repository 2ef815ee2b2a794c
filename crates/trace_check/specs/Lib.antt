pub mod Following
pub mod Lines
pub mod Parts
pub mod Scripts
pub mod VerdictTexts
pub mod Verdicts

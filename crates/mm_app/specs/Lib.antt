pub mod Commands
pub mod Completeness
pub mod StatusFacts

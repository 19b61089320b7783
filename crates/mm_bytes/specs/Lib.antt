pub mod Limits
pub mod DecimalLaws

pub mod Meaning
pub mod Batch
pub mod Batches
pub mod WordForms
pub mod RunLaws
pub mod LineLaws

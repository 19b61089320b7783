pub mod Naming
pub mod MarkLaws

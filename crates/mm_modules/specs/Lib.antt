pub mod Modules
pub mod ModulesLaws

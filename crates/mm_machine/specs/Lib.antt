pub mod Acts
pub mod OpSteps

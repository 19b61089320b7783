pub mod Messages
pub mod LengthLaws

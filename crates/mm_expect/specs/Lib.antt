pub mod Below
pub mod ExpectedState
pub mod ChronicleView
pub mod Calls

pub mod Below
pub mod Sessions
pub mod Continuation
pub mod AnySlots

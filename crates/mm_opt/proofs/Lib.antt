pub mod Above
mod Below
mod Writing
mod Reading
mod Checkpointing
mod ClosingByMachine
mod Accepting
mod Going
mod Checking

pub mod Below
pub mod Answers
pub mod AskPromise
pub mod Checkpoints
pub mod CheckpointPromise

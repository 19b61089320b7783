pub mod Below
pub mod BasicSight
pub mod Operation
pub mod AskPromise

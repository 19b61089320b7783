mod Between
mod Moving
mod Beside
mod Names
mod Orders
mod RefusedParts
mod Living
mod Retiring
mod Accepting
mod AnyWorld
mod BasicWorld
mod Decided
mod OptWorld
pub mod Above

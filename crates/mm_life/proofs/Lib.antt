mod Chains
mod Sessions
mod Living
mod BasicLife
mod KilledPrograms
mod OptSeen
mod Idling
mod OptLife
mod HonestSession
mod HonestLife
mod Refusing
mod ClosingCounts
mod OptCaller
mod CallCounts
mod Longer
mod OneRequest
pub mod Above

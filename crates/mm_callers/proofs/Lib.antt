pub mod Above
mod Below
mod Leaving
mod OptCalls
mod Preparing
mod OptChecking
mod OptRepeating

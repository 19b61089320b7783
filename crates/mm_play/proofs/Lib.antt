pub mod Above
mod Below
mod Runs
mod Turning
mod Stopped
mod Telling
mod Eventing
mod Headlines

pub mod Above
mod Below
mod Stopping
mod Steps

pub mod Above
mod Below
mod Reading
mod Matched

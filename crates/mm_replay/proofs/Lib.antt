pub mod Above
mod Below
mod Telling

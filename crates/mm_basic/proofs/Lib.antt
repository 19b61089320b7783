pub mod Above
mod Below
mod Calling
mod Telling
mod Asking

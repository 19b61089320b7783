pub mod Above
mod Below
mod Ending
mod Machine

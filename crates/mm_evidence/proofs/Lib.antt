pub mod Above
mod Below
mod Deciding
mod Fronts

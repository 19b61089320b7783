pub mod Below
pub mod Premises
pub mod OneWorld
pub mod Journey

pub mod Below
pub mod Moments
pub mod MortalLives
pub mod MortalLaws

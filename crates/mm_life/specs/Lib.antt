pub mod Below
pub mod Deeds
pub mod Stages
pub mod Premises
pub mod Laws
pub mod HonestLife
pub mod OneStore
pub mod LifeWrites

pub mod Below
pub mod EventOffers
pub mod Premises
pub mod OneRun
pub mod Laws

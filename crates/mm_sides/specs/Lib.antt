pub mod Below
pub mod BothSides
pub mod Order
pub mod Folds
pub mod Premises
pub mod Laws

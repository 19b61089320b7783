pub mod Below
pub mod Evidence
pub mod Laws

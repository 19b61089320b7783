pub mod Below
pub mod ClientLife
pub mod Laws
pub mod Careful
pub mod LocalLife

pub mod Above
mod Below
mod Turning
mod Finding
mod OptHolding
mod OptWalks
mod Completing
mod BasicLaw
pub mod OptShapes
mod OptLaw
mod Checkpoints
mod Committing
mod Coming
pub mod OptAlike
mod OptShown
mod OptLeaves

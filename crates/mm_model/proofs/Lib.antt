pub mod Above
mod Below
mod Moves
mod Paths
mod OptJudge
mod Named
mod Listing

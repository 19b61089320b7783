pub mod Above
mod Joining

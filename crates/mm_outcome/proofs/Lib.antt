pub mod Above
mod Below
mod Following
mod MetPremises
mod FirstBytes
mod Expecting
mod Counting
mod Naming

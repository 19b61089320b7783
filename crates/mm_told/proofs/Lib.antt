pub mod Above
mod Coming
mod Reading
mod Playing
mod Shortening
mod Sizing

pub mod Draws
pub mod Table
pub mod DispenserLaws
pub mod Promise
pub mod PlaceLaws
pub mod DispenserListing

pub mod Below
pub mod Listing
pub mod TextList

mod Below
mod ListingLaws
pub mod GuardLaws

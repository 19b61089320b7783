pub mod CounterListing
pub mod Listing
pub mod RequestLaws

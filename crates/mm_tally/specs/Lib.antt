pub mod Promise
pub mod PromiseLaws
pub mod Table
pub mod TallyLaws
pub mod TallyListing

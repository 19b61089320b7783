pub mod Table
pub mod LimiterListing
pub mod LimiterLaws
pub mod Promise

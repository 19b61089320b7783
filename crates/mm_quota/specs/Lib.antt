pub mod Table
pub mod LedgerLaws
pub mod SpellingLaws
pub mod Views
pub mod LedgerListings

pub mod Above
mod Below
mod ReadingLemmas

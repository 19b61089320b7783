pub mod Above
mod Below
mod MeddleLaws
mod TellingLaws
mod ReadIsSpelled
mod SpelledIsRead

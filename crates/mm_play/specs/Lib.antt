pub mod PlaysInput
pub mod Headline
pub mod LineTurn
pub mod Stage
pub mod StageLaws

mod Counting
mod LineStops
mod HostStops
mod SessionStops
mod MortalEnds
mod MortalLaws
pub mod Above

pub mod Above
mod Below
mod TaggedLaws

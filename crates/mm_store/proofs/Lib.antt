pub mod Above
mod Below
mod PendingLaws

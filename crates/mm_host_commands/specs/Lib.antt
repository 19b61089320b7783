pub mod Outside
pub mod Run

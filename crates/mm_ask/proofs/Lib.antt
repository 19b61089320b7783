pub mod Above
mod Asking

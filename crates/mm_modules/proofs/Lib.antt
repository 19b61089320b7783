pub mod Above
mod Finding

mod Failing
pub mod Above

pub mod PageCalls
pub mod Devices

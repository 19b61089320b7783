pub mod Devices
pub mod Lives
pub mod CommandLives
pub mod Commands

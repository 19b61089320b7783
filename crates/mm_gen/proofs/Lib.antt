mod Below
mod Replaying
mod Spelled
mod Tallying

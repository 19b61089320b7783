pub mod Above
mod Below
mod BatchMeeting
mod Refusing
mod Meeting
mod Recovering
mod SettingUp
mod Exits
mod CellWriting

pub mod Above
mod Below
mod Lines
mod Turning
mod Counting
mod Putting
mod Leading
mod OptLeading
mod CallsMade
mod InTurn
mod LineStep
mod SessionRuns
mod RunningOnce
mod NextRefused

mod Below
mod RunningOnce

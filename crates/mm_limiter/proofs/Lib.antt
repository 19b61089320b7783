mod Below
mod ViewLaws

mod Below
mod WordLaws

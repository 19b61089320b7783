mod Below
mod DrawLaws

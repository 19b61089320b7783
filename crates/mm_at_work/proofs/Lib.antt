mod Below
mod CommandsKeeping
mod WholeLives
mod CommandLists

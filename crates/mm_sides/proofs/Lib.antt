pub mod Above
mod Below
mod InOrder
mod Found
mod Outer
mod WentOn
mod SideNames
mod OneRun
mod Rests
mod Twins
mod SameFound
mod Agreeing
mod BothAgree
mod SideIssues
mod OwnNames
mod OneMove
mod Breaking

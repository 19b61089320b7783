mod Below
mod Blame
mod Completing
mod HoldingStart
mod Holding
mod HoldingClosing
mod HoldingRun

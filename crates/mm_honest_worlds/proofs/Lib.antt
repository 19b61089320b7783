mod OneHistory
mod Arriving
mod Keeping
mod GoingOn
mod AllStages
mod Putting
mod Crossings
mod Stopping

pub mod Rows
pub mod PageStanding
pub mod SlotWrites
pub mod CachedDevice

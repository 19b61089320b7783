pub mod Below
pub mod HostStanding
pub mod CellWrites
pub mod Recovery
pub mod FirstStart
pub mod SlotLaws

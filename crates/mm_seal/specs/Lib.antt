pub mod Cell
pub mod Snapshot
pub mod Parts
pub mod FieldLaws
pub mod SnapshotLaws
pub mod CellLaws

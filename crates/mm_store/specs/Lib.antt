pub mod StoreStanding
pub mod PendingRecord

pub mod Receipts
pub mod Table
pub mod ReceiptListing
pub mod ReceiptedLaws

pub mod ReceiptCheck
pub mod Reports

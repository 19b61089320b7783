pub mod Cells
pub mod Tickets
pub mod Orders

pub mod Above
mod Below
mod CellLaws
mod TicketLaws
mod Moving

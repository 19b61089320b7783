pub mod WorldStanding
pub mod Calls
pub mod Lengths
pub mod Seat

pub mod TornMemory

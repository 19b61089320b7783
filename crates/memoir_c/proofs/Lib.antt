mod Batching
mod Rooming

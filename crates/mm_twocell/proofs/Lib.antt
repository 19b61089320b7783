mod Below
mod Cells
mod Writing

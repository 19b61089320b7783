mod Below
mod Blocks

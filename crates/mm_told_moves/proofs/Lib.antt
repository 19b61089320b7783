mod Moving
mod Reading
mod Sizing

pub mod Above
mod Below
mod Asking
mod Seating
mod Calling
mod Worlds
mod InVain

mod Below
mod Sending

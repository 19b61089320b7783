mod CallLaws
mod Below
mod Settling
mod EventLaws
mod Asking

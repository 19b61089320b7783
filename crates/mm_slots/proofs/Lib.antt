mod Below
mod Growing
mod Alone
mod Fitting
mod Stepping
mod Beginning
mod Rowing
mod Telling

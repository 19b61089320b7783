mod Below
mod NameLaws
mod TakenLaws
mod KnownLaws
mod PlaceLaws

mod Below
mod PlaceLaws

mod Below
mod Playing
mod HonestLaws

pub mod Below
pub mod MortalClient

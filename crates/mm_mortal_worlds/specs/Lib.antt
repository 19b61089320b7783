pub mod Below
pub mod MortalWorlds
pub mod MortalEvidence
pub mod MortalWorldLaws
pub mod OverStores

mod MortalWorlds
mod OverStores

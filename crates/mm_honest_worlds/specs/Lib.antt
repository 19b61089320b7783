pub mod Below
pub mod HostStores
pub mod GoingOn
pub mod Arrivals
pub mod Laws
pub mod Carrying

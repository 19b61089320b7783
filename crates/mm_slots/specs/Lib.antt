pub mod Stage
pub mod HeldParts
pub mod Tenant
pub mod Table
pub mod Laws
pub mod StageLaws

pub mod Below
pub mod SideCommands
pub mod Events
pub mod MovePlan
pub mod Stage
pub mod RoleCells
pub mod Laws
pub mod StageLaws

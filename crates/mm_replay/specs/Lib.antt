pub mod Schedule
pub mod ScheduleLaws
pub mod Progress

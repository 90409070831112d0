-- The laws of the two key schedules.
pub mod ScheduleLaws
pub mod InverseLaws

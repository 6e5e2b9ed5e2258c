pub mod Checkings
pub mod Arrivals
pub mod Phases
pub mod Stands
pub mod Turning
pub mod Between
pub mod Runs
pub mod Boxed

pub mod ReadLaws
pub mod Forwarded
pub mod Runs
pub mod Rows
pub mod Heads
pub mod Hunts
pub mod HuntCases
pub mod HuntSteps
pub mod HuntRuns
pub mod HuntFrames
mod HuntRows
mod DnpRows
pub mod Parting
pub mod Broken
pub mod RtuFamilyLaws
pub mod RtuRuns
pub mod HuntFamilyLaws

mod CutBytes
pub mod Sending
pub mod Arriving
pub mod DnpRows
pub mod RtuRows
pub mod Runs
pub mod RunSteps
pub mod Owing
pub mod Early
pub mod Keeping

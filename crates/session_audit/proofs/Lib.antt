pub mod BurstRuns
pub mod LastNotes
pub mod Starting
pub mod RunNotes
pub mod Showing
pub mod Lately
pub mod Spaced
mod Auditing
pub mod Judged
pub mod SealedAlike
pub mod Starts
pub mod Parts
pub mod Unlisting
mod Worked
pub mod Pushing
pub mod InOrder
pub mod Recording
pub mod Telling
pub mod Keying

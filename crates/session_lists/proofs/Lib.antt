pub mod Parting
mod Holding
pub mod Lists
pub mod Marks
pub mod Keeping
pub mod SessionListing
pub mod HeardRuns
pub mod Runs
pub mod Listed
pub mod Comparing
pub mod Due
pub mod TakenLines
pub mod InPlace
pub mod Parted
pub mod RunFronts
pub mod SessionSteps

pub mod Resuming
pub mod SealingOn
pub mod CheckingOn
pub mod GatesOn
pub mod GoingOn
pub mod PollingOn
pub mod Merging
pub mod Parting
pub mod Several
mod WorkedRests

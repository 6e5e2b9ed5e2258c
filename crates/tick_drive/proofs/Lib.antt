pub mod Known
pub mod Meeting
pub mod ItemLaws
pub mod Moving
pub mod Stopping
pub mod Driving
pub mod Causes
pub mod Fronts

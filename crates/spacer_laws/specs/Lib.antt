pub mod SpacesOut
pub mod Leaving
pub mod Delivering
pub mod Guarding
pub mod GivingAll

pub mod Parts
pub mod Places
pub mod Placing
pub mod RateWords
pub mod Giving
pub mod Clock
pub mod Walks
pub mod Fields

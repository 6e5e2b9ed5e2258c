pub mod Directions
pub mod Pairs
pub mod Turns

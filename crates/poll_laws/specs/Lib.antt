pub mod Rested
pub mod Among

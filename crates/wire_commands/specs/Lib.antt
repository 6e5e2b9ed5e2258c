pub mod WireLines
pub mod Making
pub mod TickLines
pub mod Hearing
pub mod WireBox

pub mod Shared
pub mod Table
pub mod StationLaws
pub mod InTurn

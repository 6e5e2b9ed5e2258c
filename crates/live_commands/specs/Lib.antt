pub mod Able
pub mod LiveCommand
pub mod LineEnds
pub mod AheadLines
pub mod Filtering
pub mod FilteringLaws
pub mod LiveLine
pub mod TextEnds

pub mod LineFacts
pub mod Places
pub mod Reached
pub mod Spelled
pub mod Reading
pub mod Written
mod SeenTexts
pub mod RowLaws
pub mod Refusals
pub mod DecimalLaws
pub mod LevelLaws
pub mod ChangeLaws
pub mod TextLaws
pub mod LookLaws
pub mod DumpLines

mod Worked
mod Taking
mod Numbers
mod Words
pub mod RoundingLaws
pub mod Clocks
mod GivenTicks
pub mod GivenLines
pub mod WalkLaws
pub mod FieldLaws

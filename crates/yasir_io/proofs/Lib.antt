pub mod FileLemmas
pub mod FlushLaws
pub mod Images
pub mod Moments
pub mod OutputLemmas
pub mod Telling
pub mod TextRooms

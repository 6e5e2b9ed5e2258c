pub mod Answered
pub mod FullRoom
pub mod KnownAnswers
pub mod UserData

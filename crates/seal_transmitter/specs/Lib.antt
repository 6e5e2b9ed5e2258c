pub mod Answers
pub mod Stands
pub mod Boxed
pub mod Between
pub mod Runs

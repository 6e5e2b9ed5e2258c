pub mod LateWords
pub mod Asking
pub mod Counting
pub mod Outcomes
pub mod OverTwo
pub mod JournalNames
pub mod Flushing
pub mod Headlines
pub mod KeyedRuns
pub mod Listable
pub mod Duplexed
pub mod Spaced
pub mod Trials
mod Polls
pub mod Numbers
pub mod Paths
pub mod Auditing
pub mod HelpPage
mod UsageTexts

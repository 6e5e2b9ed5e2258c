pub mod TurnedEnds
pub mod Watches
pub mod PollEnds
pub mod Asking
pub mod Unsealed
pub mod Polled
pub mod Sessions
pub mod PollLine

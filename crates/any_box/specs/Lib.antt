pub mod Places
pub mod Kinds
pub mod Commits
pub mod Noting
pub mod Boxes
pub mod Held
pub mod Spacers
pub mod HeldSpacers

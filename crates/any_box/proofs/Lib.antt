mod Noted
mod Committed
mod Places
mod Loaded
mod Taking
mod Arms
mod Written
mod SpacerArms
pub mod OfKinds

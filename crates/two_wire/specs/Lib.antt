pub mod Wires
pub mod Turns
pub mod Gate
pub mod Given
pub mod TwoWire
pub mod Polling
pub mod Polls
pub mod Starts

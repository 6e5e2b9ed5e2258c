pub mod LineRooms
pub mod LineWriters
pub mod Sending
pub mod Added

pub mod Writer
pub mod Sending
pub mod Texts
pub mod Adding

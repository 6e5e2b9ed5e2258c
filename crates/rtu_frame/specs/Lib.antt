pub mod Crc
pub mod Frame
pub mod Rules
pub mod Rtu

pub mod Numbering
pub mod Rising
pub mod OneStation
pub mod Causality
pub mod Blind
pub mod Reading
pub mod Packets
pub mod Sealed
pub mod Centres
mod WorkedRow
pub mod Strangers
pub mod InTurn
pub mod Own
pub mod Untouched
pub mod Free

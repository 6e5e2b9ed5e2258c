pub mod Quiet
pub mod Keeping
pub mod Letting
pub mod Sharing
pub mod Giving
pub mod Devices
pub mod Gating
pub mod Ends
pub mod Determined
pub mod SentPackets
pub mod Exchanges
pub mod Spacing
pub mod Polling
pub mod LinkApart
pub mod Starting
pub mod Resting
mod WorkedRows

pub mod Notes
pub mod Calm
pub mod Settled
pub mod Readings
pub mod RtuReadings
pub mod Hunters
pub mod HunterReadings
pub mod Anew
pub mod DnpReadings
pub mod Stated
pub mod Words
pub mod Standing
pub mod Rising
pub mod Packets
pub mod Longer
pub mod Worked
mod WorkedDnp
pub mod Packing
pub mod Delivering
pub mod Deliveries
pub mod Subsequences
pub mod Accounting
pub mod InTurn
pub mod OverUptimes
pub mod Headline
pub mod Parting
pub mod Sending
pub mod Emitting
pub mod CutLinks
pub mod Reflecting
pub mod InStep
pub mod QuietLines
pub mod Recovering
pub mod WorkedRecovery
mod WorkedRecoveryRtu
mod WorkedMembers
mod WorkedUptimes
pub mod AllLeft

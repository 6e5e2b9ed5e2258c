pub mod Arrivals
pub mod FrameQueue
pub mod Spacing
pub mod Stands
pub mod Runs
pub mod Owing

pub mod Cuts
pub mod TimedFrames
pub mod RecordFrames
pub mod HuntedBytes

pub mod CrcLaws
pub mod CrcLinear
pub mod CrcSlices
pub mod CrcTableChecks
pub mod CrcZero
pub mod EndingLaws
pub mod Taking
pub mod Standing

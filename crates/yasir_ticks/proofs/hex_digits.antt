pub mod Decoding
pub mod HexValues
pub mod PairLanes
pub mod FullLanes
pub mod DigitLookups
pub mod DigitEncoding

pub mod FrameLaws
pub mod RtuLaws
pub mod Rows
pub mod Tables

pub mod Cases
pub mod Tables

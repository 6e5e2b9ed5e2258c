pub mod Items
pub mod Consumers
pub mod Input
pub mod Intake
pub mod Drive

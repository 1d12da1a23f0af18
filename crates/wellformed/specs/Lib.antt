pub mod Reached
pub mod Slots
pub mod Parts

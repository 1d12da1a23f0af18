pub mod Fields
pub mod Claiming
pub mod Zeros

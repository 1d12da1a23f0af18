pub mod Examples
pub mod Arriving

pub mod Examples
pub mod Gaps

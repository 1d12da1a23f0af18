-- Laws that belong to no one function. They assume nothing.
pub mod Bounds
pub mod Wholes
pub mod Seen
pub mod Decimals

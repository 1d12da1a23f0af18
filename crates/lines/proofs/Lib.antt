-- Laws that belong to no one function. They assume nothing.
pub mod Seen
pub mod Sides
pub mod Lines

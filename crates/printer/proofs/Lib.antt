-- Laws that belong to no one function. They assume nothing.
pub mod Counting
pub mod Reaching
pub mod Texts
pub mod ByKind
pub mod Walks
pub mod Roots
pub mod Cleaning
pub mod Items

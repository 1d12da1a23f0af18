-- The definitions that the contracts of listing cite.
pub mod Listing
pub mod References
pub mod Roots
pub mod Machine
pub mod Work

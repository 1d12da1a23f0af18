-- What the contracts of this crate's own functions cite; those of its public functions cite `rules` and `parser` alone.
pub mod Commas
pub mod Roots

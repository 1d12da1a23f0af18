-- What the contracts of this crate's own functions cite; those of its public functions cite `rules` alone.
pub mod Ascii
pub mod Sequences

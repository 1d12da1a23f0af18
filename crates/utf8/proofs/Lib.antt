-- Facts that the proofs of several functions share. They assume nothing.
pub mod Rows
pub mod Ascii
pub mod Passes

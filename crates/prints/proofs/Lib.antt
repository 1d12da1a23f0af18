-- What the proofs share.
pub mod Prints
pub mod Names

-- What the proofs share.
pub mod Candidates
pub mod Rows

-- What the proofs share.
pub mod Arriving

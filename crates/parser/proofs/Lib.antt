-- What the proofs share.
pub mod Chains
pub mod Leaves
pub mod Steps
pub mod Nexts
pub mod Scope
pub mod Claimed
pub mod Loops
pub mod Words

-- What the proofs share.
pub mod Endings
pub mod Unique
pub mod UniqueLexing
pub mod UniqueStores

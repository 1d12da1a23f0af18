-- What the contracts on standard input cite.
pub mod Counts

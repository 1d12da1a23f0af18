-- What the proofs share.
pub mod Bits
pub mod Blocks
pub mod Closing
pub mod Codes
pub mod Commas
pub mod Firsts
pub mod Looks
pub mod Loops
pub mod Words

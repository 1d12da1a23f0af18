-- The words of the promises, beside the definitions of `rules`: what each theorem of proofs/ says is said in these.
-- Demand 1.
pub mod Sequences
pub mod Ends
-- Demand 2.
pub mod Rows
pub mod Accepts
-- Demand 3.
pub mod Tables
pub mod Lines
pub mod Back
-- What the contracts are held to.
pub mod Programs

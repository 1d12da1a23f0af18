-- What was demanded, over the contracts of the public calls: a statement to each file, in the words of the demand. These words are in specs/ and in `rules`.
-- Calls, Lines, Taken and Witnesses lead to the statements.
pub mod Calls
pub mod Reports
-- Demand 1.
pub mod FirstBad
pub mod EveryCall
pub mod Exactly
-- Demand 2.
pub mod AsTheCrate
pub mod Sentences
-- Demand 3.
pub mod Canonical
pub mod CanonicalTables
pub mod Lines
pub mod Listing
pub mod Taken
pub mod ReadingBack
-- What the contracts are held to.
pub mod Witnesses
pub mod ShutOut

-- Reading accepts exactly the sentences of the grammar (rules, Grammar). The theorem is Accepts, and Calls tells it of the public read calls.
-- PrintedLength says how long a print can be. All else leads to them.
pub mod Leads
-- What the reader by names takes, the grammar says.
pub mod Sound
pub mod SoundAttributes
pub mod SoundStatements
pub mod SoundItems
-- What the grammar says, the reader by names takes.
pub mod Complete
pub mod CompleteStatements
pub mod CompleteItems
-- The theorem.
pub mod Accepts
pub mod Calls
pub mod Example
-- How long a print can be.
pub mod Shortest
pub mod Weights
pub mod Lengths
pub mod PrintedLength

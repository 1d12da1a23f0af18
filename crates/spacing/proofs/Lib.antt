-- Spacing is nothing: two texts of the same tokens are read alike. The theorem is SpacingIsNothing, and Calls tells it of the public read calls.
-- specs/ has the words that they are stated in. All else leads to them.
pub mod Sequence
-- Rows that are the same but for places, and what they say.
pub mod Lined
pub mod Patterns
pub mod Views
-- The same rule in two worlds; the grammar, rule by rule; the whole of a text.
pub mod Twins
pub mod Walk
pub mod Start
-- The theorem.
pub mod SpacingIsNothing
pub mod Calls
-- Worked examples of lists of tokens.
pub mod Example

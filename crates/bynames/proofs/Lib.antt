-- Demand 3 as theorems, for texts as a reader by names takes them. The promises are Canonical, Listed and ReadingBack; all else leads to them.
-- The theory without bytes: what a print says of an item.
pub mod Members
pub mod WellFormed
pub mod Names
pub mod Unfolded
pub mod Gather
pub mod Canon
-- Tokens of the rest of a text, and what printed parts lex to.
pub mod Tokens
pub mod Located
pub mod Pieces
pub mod Decimals
pub mod InstructionWords
-- The reader by names.
pub mod Parser
pub mod Reader
pub mod Example
-- A print reads back.
pub mod Steps
pub mod BackOperands
pub mod BackSides
pub mod BackAttributes
pub mod BackLines
pub mod BackItems
pub mod BackLists
pub mod Ascii
-- What is accepted is well formed.
pub mod AcceptedTokens
pub mod AcceptedParts
pub mod AcceptedAttributes
pub mod AcceptedItems
-- The reader moves on, and fuel changes nothing.
pub mod Moves
pub mod MovesRules
pub mod Fuel
-- The promises.
pub mod Canonical
pub mod Listed
pub mod Costs
pub mod ReadingBack

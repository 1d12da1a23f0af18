-- Demand 3 for texts as the definition reads them, into tables of rows. The promises are Canonical, Listing, ReadingBack and AsManyRows; Calls tells them of the
-- public read calls, by what those ensure. Said has the words that they are stated in. All else leads to them.
pub mod Said
-- What rows say stays as rows are added behind them.
pub mod Stable
-- The reading over rows and the reading by names go together, rule by rule.
pub mod Together
pub mod Words
pub mod Tokens
pub mod Numbers
pub mod Scopes
pub mod Operands
pub mod Attributes
pub mod Sides
pub mod Statements
pub mod Items
pub mod Lists
pub mod Whole
-- The promises, of the tables of an outcome.
pub mod Canonical
pub mod Listing
pub mod ReadingBack
pub mod AsManyRows
-- The promises, of the tables that a call leaves.
pub mod Left
pub mod Calls

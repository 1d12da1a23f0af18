-- What an accepted read leaves is well formed. The promise is Formed; all else leads to it.
-- The tables each by itself, and the letters of names and patterns.
pub mod Padding
pub mod Letters
-- Rules that claim no row.
pub mod Going
pub mod Numbers
pub mod Scope
-- Rules that claim rows: each row is well formed in all later tables, and owns what was claimed for it.
pub mod Operands
pub mod Attributes
pub mod Sides
pub mod Statements
pub mod Spans
pub mod Bodies
pub mod Items
pub mod Whole
-- The promise.
pub mod Formed

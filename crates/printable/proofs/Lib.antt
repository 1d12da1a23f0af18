-- From well-formed tables to a print. The step is Printable, and Refusals says what a print of them answers; all else leads to them.
pub mod Spans
pub mod Texts
pub mod Printable
pub mod Refusals

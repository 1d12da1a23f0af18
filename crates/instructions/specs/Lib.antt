-- Which words each part of a search decides, and the number of what it finds.
pub mod Candidates
pub mod Number

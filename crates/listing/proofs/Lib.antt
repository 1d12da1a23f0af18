-- Laws that belong to no one function. They assume nothing.
pub mod Marking
pub mod Searches
pub mod Unfolding
pub mod Orders
pub mod Listings
pub mod Words
pub mod Pushes
pub mod Steps
pub mod Lengths
pub mod Walks
pub mod Example

-- Laws that belong to no one function. They assume nothing.
pub mod Words

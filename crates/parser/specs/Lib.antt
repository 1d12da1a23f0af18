-- What the contracts of the parser cite, and those of the reader.
pub mod Stands
pub mod Next

-- What the contracts of writers speak of.
pub mod Writing

-- What the contracts of the pieces speak of, beside the definitions of `rules`.
pub mod Bounds
pub mod Sources

-- What the contracts of the public calls speak of, beside the definitions of `rules`.
pub mod Parts

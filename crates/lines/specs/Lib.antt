-- What the contracts of the lines speak of, beside the definitions of `rules` and `pieces`.
pub mod Sources

-- What the contracts of wide integers speak of, beside the definitions of `rules`.
pub mod Wide

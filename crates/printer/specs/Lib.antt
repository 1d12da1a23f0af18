-- What the contracts of the printer speak of, beside the definitions of `rules` and `listing`.
pub mod Rows
pub mod Contract

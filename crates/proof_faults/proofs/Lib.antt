-- Of each fault of a text, the kind of the token where it stands.
pub mod Faults

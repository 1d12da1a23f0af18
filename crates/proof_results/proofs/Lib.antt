-- Results of the public calls, by the answers that they are.
pub mod Apart

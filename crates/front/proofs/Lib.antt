-- What a read and a print together tell, what they never tell, and a text that is read into piece by piece.
pub mod Laws
pub mod Never
pub mod Filling

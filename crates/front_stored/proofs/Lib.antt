-- What a read and a store together tell, what a load and a print together tell, what is never told, and that both programs agree.
pub mod Laws
pub mod Never
pub mod Agree

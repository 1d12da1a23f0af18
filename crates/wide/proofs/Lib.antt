-- Laws of integers: of the definitions in `rules`, and of numbers in two halves.
pub mod Fields
pub mod Halves
pub mod Tens
pub mod Digits
pub mod LastDigit
pub mod Unsigned
pub mod Signed
pub mod FirstByte
pub mod Decimals
pub mod Short
pub mod ReadsBack
pub mod Examples

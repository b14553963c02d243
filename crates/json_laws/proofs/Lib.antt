pub mod Escapes
pub mod Decimals
pub mod Spaces
pub mod SamplesShown
pub mod Numerals
pub mod Grammar

pub mod Parsing
pub mod Tokens
pub mod Decimals
pub mod Numbers
pub mod Texts
pub mod Values
pub mod Printed
pub mod Again

pub mod Escapes
pub mod Decimals
pub mod NodeLines
pub mod NodeOrder
pub mod WayOrder
pub mod SamplesShown

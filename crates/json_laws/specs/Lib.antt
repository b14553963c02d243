pub mod Escaping
pub mod Numbering
pub mod Spacing
pub mod Samples
pub mod Grammar

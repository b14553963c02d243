pub mod Reading
pub mod SamplesShown

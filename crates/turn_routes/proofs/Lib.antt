pub mod Routes

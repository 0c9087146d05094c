pub mod Patterns
pub mod Weights

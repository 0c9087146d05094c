pub mod Readings
pub mod Laws
pub mod Patterns
pub mod Performs
pub mod Primitives

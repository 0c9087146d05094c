pub mod Callers
pub mod Owners

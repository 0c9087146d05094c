pub mod Head
pub mod Responses

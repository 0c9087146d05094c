pub mod Data
pub mod AnswerText
pub mod Tokens
pub mod Parts

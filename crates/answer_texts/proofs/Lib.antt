pub mod Steps
pub mod TokenLemmas
pub mod TextExamples

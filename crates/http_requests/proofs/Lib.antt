mod QueryLemmas
mod TargetLemmas
mod TokenLemmas
pub mod OneRequest
pub mod RequestExamples

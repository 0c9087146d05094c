pub mod PatternRefusals
pub mod Again
pub mod Digests
mod DigestExamples
pub mod ReadableTexts
pub mod ShortTexts
pub mod CallerSteps
pub mod PerformLemmas
pub mod CarryLemmas
pub mod InPlace

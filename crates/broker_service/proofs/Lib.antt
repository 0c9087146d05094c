pub mod TransactLemmas
pub mod WorkFailures
pub mod EndLemmas
pub mod AppliedLemmas
mod WitnessExamples

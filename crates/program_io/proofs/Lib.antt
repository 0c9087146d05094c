pub mod ResultLemmas
mod EntranceLemmas
mod NormaliseLemmas
pub mod VerdictLemmas

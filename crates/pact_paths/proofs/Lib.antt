pub mod WeightLemmas
pub mod Checked
pub mod PathLemmas
pub mod Spellings
pub mod ReadingLemmas
pub mod WalkLemmas
mod Examples

pub mod Each
pub mod ChoiceLemmas
pub mod MatchingLemmas
mod TreeLemmas
mod AsReadLemmas
pub mod GatheredLemmas
mod DeferredLemmas
pub mod PartLemmas
pub mod PatternLemmas
mod AcceptedPatterns
pub mod OrderLemmas
pub mod ReadingLemmas
mod NameLemmas
pub mod WalkLemmas
mod Examples

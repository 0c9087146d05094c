pub mod BodyLemmas
mod FitLemmas
mod DeferredLemmas
pub mod FittingLemmas
mod WalkLemmas
mod ValueLemmas
mod Deciding
mod SentLemmas
mod MeetLemmas
mod ReadLemmas
mod RivalLemmas
mod VerdictLemmas
mod Examples

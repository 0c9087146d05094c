pub mod Lists
pub mod Order
pub mod Listing
pub mod Locality
pub mod Effects
pub mod Retry
pub mod Judgement
mod Fixture
mod PublicationExamples
mod PolicyExamples
mod RunExamples
mod SessionExamples
mod GateExamples
mod StrictExamples
mod ListingExamples
pub mod SessionLemmas
pub mod DoneLemmas
pub mod GateLemmas
pub mod Once
pub mod Callers
pub mod SoundContents
pub mod Quiet
pub mod Headline
pub mod RunHeadline
pub mod Sorting
pub mod Listings
pub mod Matrix
pub mod Exists
pub mod StepLemmas
pub mod SoundNames
pub mod Ways

pub mod ResultLemmas
pub mod UnchangedLemmas
pub mod AuditLemmas
pub mod FailureLemmas
pub mod WordsLemmas
pub mod RefusalLemmas
pub mod ReopeningLemmas
pub mod VisitLemmas
pub mod ServingLemmas
mod CallLemmas
pub mod PeriodLemmas
pub mod ServiceStops
pub mod TestedLemmas
mod WitnessExamples

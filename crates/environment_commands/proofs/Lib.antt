pub mod GateJudgement
pub mod PlaceLemmas

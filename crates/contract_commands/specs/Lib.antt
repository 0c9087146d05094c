pub mod BranchPact
pub mod Checks
pub mod Numbering
pub mod Pacts
pub mod Results

pub mod BranchLast
pub mod CheckLemmas
pub mod ContentThere
pub mod NumberingLemmas
pub mod PactLemmas
pub mod ResultLemmas
pub mod Unread

pub mod Deployed
pub mod Reopened
pub mod Served
pub mod Asked
pub mod Questions

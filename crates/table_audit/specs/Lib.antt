pub mod Audit
pub mod Line
pub mod Shown

pub mod Registry
pub mod Format
pub mod Marks
pub mod Form

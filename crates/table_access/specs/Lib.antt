pub mod Sound
pub mod Columns
pub mod Statements
pub mod Unit
pub mod Writes
pub mod Calls
pub mod Durability
pub mod Reading

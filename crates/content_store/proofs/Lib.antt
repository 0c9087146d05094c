pub mod TextNumbers
pub mod ContentRows
pub mod ReadableRows
pub mod Held

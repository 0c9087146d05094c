pub mod Faults
pub mod Stream
pub mod Exchange
pub mod Serving
pub mod Journal
pub mod Calls
pub mod Laws

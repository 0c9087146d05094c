pub mod Names
pub mod Queries
pub mod Bodies
pub mod Commands
pub mod Tokens
pub mod Views
pub mod Requests
pub mod Laws

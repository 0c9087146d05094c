pub mod Routes
pub mod Methods
pub mod Table
pub mod Places

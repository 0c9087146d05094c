pub mod Faults
pub mod Listening
pub mod Reported
pub mod Written
pub mod Entrance
pub mod Lending

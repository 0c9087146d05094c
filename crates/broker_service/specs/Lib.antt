pub mod Transacted
pub mod Does

pub mod Asking
pub mod Deploying
pub mod Pacts
pub mod Reopening
pub mod Replies
pub mod Streams
pub mod Tables

pub mod Verified
pub mod Listings
pub mod VersionResults
pub mod LatestRows
pub mod ResultsByVersion
pub mod CheckedTable

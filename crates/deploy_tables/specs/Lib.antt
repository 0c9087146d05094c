pub mod Deployments
pub mod Releases
pub mod Listings
pub mod ContractsThere
pub mod Partners
pub mod Needs
pub mod Matrix
pub mod AnyThere

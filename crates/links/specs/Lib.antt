pub mod Listings
pub mod Chains
pub mod Parentages

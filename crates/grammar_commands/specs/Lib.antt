pub mod FaultLists
pub mod Listings

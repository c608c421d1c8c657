pub mod Refused
pub mod Accepted
pub mod Limits
pub mod Case
pub mod Crane
pub mod Listings

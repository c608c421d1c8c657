pub mod Claim
pub mod Contracts

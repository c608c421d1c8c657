pub mod Texts
pub mod Claim
pub mod Contracts
pub mod Examples

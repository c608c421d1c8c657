pub mod Accepted
pub mod Steps
pub mod Vectors

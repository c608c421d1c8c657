pub mod Spelt
pub mod Named

pub mod Named
pub mod Exact
pub mod Spelt
pub mod Wellformed

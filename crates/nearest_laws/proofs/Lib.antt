pub mod Laws
pub mod Difference
pub mod Described

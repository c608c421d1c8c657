pub mod Filled
pub mod Values

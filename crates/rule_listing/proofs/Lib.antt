pub mod Conditions
pub mod Texts

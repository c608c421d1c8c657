pub mod Digits
pub mod Values

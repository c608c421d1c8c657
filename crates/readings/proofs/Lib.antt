pub mod Rounding
pub mod Cases
pub mod Bits
pub mod Bounds

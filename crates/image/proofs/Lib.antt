pub mod Kept
pub mod Whole

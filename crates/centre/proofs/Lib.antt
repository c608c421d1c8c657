pub mod Moment
pub mod Between

pub mod Readings
pub mod Arrays

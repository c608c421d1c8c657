pub mod Fields
pub mod Placed
pub mod Tables
pub mod Loads
pub mod Bytes

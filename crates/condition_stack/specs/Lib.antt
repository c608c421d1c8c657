pub mod Shapes
pub mod Stored

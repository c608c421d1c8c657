pub mod Blocks
pub mod Images
pub mod Edges
pub mod Calls
pub mod Vectors

pub mod Line
pub mod Degree
pub mod Edges

pub mod Fronts
pub mod Sums
pub mod Views

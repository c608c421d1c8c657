pub mod Fronts
pub mod Turns
pub mod Lists
pub mod Views

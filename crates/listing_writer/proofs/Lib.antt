pub mod Prepends
pub mod Lists

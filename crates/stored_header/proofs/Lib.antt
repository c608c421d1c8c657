pub mod Names
pub mod Lists

pub mod Prepends

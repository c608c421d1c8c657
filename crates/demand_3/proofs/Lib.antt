pub mod Opened
pub mod Calls
pub mod Broken
pub mod Images

pub mod View
pub mod Stored
pub mod Changes

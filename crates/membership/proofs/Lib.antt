pub mod Entries
pub mod Points

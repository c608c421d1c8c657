pub mod Names
pub mod Spelling

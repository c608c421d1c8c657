pub mod Rows
pub mod Tables
pub mod Groups
pub mod Checked

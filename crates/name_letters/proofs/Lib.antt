pub mod Alike
pub mod Tables

pub mod Symbols
pub mod Firsts
pub mod Declarations

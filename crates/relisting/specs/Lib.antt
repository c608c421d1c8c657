pub mod Relists

pub mod Told
pub mod Faults

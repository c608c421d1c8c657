pub mod Back
pub mod Examples

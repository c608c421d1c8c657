pub mod Machine
pub mod Forms

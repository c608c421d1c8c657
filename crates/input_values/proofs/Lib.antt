pub mod Fill
pub mod Wrong

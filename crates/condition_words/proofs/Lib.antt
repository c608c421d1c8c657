pub mod Room
pub mod Stacks
pub mod Passes
pub mod Trees

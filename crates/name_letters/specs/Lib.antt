pub mod Letters

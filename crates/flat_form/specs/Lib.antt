pub mod Form
pub mod Untouched

pub mod Laws
pub mod Untouched

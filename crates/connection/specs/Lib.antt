pub mod Back
pub mod Channel
pub mod Unit
pub mod Version
pub mod Versions

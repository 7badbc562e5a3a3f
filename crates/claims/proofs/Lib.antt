pub mod Cases
mod Channels15
pub mod Claims
pub mod Demand1
pub mod Demand3
mod Equality
pub mod FewBytes
pub mod Fields
pub mod FindFast
pub mod Header
pub mod KeptBits
mod Lines
pub mod PlatformEvents
pub mod Requests
pub mod SlotAnswer
pub mod Texts

mod Cases
pub mod Counts
pub mod FirstByte
pub mod Laws
pub mod LengthSaid
pub mod Ported
pub mod Rows
pub mod Sizes

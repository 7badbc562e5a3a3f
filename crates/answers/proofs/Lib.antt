pub mod BytesThatCount
pub mod Length
pub mod LengthDecides
pub mod Ported
pub mod Requests
pub mod Rows
pub mod WhatWasShort

pub mod Numbers
pub mod Room
pub mod Text
pub mod Written

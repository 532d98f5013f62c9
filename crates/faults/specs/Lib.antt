pub mod Bytes
pub mod Numbers
pub mod Record
pub mod Refusal
pub mod Words

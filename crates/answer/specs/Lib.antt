pub mod Decoded
pub mod Answered
pub mod Words

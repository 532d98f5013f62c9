pub mod Bytes
pub mod Bits
pub mod Places
pub mod Turns
pub mod Marked

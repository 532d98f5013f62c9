pub mod Lengths
pub mod Tallies
pub mod Puts
pub mod Entries

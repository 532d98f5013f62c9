pub mod Told
pub mod Rounds

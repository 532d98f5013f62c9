pub mod Listed
pub mod Walked
pub mod Joined
pub mod Labelled

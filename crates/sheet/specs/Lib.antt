pub mod Limits
pub mod Book
pub mod Refusals
pub mod Single
pub mod Report
pub mod Labelling

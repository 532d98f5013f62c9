pub mod Fields
pub mod Parse
pub mod Reading
pub mod Shown
pub mod WellFormed

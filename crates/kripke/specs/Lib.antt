pub mod Bounds
pub mod Table
pub mod TableSound
pub mod Labelled
pub mod Answer

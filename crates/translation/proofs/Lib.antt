pub mod Spans
pub mod Leaving
pub mod Sound
pub mod Laying
pub mod Performing
pub mod Labelling

pub mod Marks
pub mod Aim
pub mod Parted
pub mod Stands
pub mod Turns
pub mod Marked
pub mod Boolean

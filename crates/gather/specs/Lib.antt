pub mod Counted
pub mod Gathers
pub mod Sight
pub mod Puts

pub mod Product
pub mod Hiding
pub mod Kept
pub mod ProductSound
pub mod HidingSound
pub mod KeptSound

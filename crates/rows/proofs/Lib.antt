pub mod InTurn
pub mod Verdicts
pub mod Calls

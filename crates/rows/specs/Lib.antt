pub mod Fields
pub mod Rows
pub mod Tests
pub mod Tester
pub mod RouteNumber
pub mod Words

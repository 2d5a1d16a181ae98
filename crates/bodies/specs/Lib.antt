pub mod List
pub mod Body
pub mod Reading
pub mod Stops

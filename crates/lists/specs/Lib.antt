pub mod Calls
pub mod Parts
pub mod Demand
pub mod Stops
pub mod Starred
pub mod kernel

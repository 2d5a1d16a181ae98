pub mod Rows
pub mod Sizes
pub mod Sums
pub mod Promises

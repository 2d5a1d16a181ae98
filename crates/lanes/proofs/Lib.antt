pub mod Shifts
pub mod Rows
pub mod Joined
pub mod Determined

pub mod Undo
pub mod Steps
pub mod Determined

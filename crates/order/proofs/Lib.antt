pub mod Steps
pub mod Beginnings
pub mod Going
pub mod Blockwise
pub mod Determined
pub mod Claims

pub mod Going
pub mod Converted
mod Determined

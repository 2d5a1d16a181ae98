pub mod Header
pub mod Opening
pub mod Calls
pub mod kernel
pub mod Claims

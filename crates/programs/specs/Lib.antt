pub mod Lines
pub mod kernel
pub mod Programs
pub mod Claims

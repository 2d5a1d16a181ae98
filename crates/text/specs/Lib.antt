pub mod Text
pub mod Claims

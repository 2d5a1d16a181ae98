pub mod Layout
pub mod Width
pub mod Claims

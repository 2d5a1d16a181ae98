pub mod Claims
pub mod Shown
pub mod Tables
pub mod Words

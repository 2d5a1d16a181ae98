pub mod Decimals
pub mod Printed
pub mod Numbers
pub mod Lines
pub mod Beginnings
pub mod Found
pub mod Claims
pub mod Determined

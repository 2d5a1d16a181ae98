pub mod Places
pub mod Registers
pub mod Packing
pub mod Unpacking
pub mod Tests
pub mod Widths
pub mod Trips
pub mod Determined

-- What the private functions say to each other. A reader of the public contracts need not believe any of it.
pub mod Blocks
pub mod Places
pub mod Registers

-- How the header of a file is found, line after line (Finding), and how it is put (First, Lengths). Public definitions are built on the
-- first, and nobody need believe it: Claims says what is found.
pub mod Finding
pub mod First
pub mod Lengths

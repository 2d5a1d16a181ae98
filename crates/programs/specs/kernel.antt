-- How the values of a text are found (Lines), and what it is refused for before they are packed (Forms). Public definitions are built on the
-- first, and nobody need believe it: Claims says what is accepted and found, TextsExactly and TextValues.
pub mod Lines
pub mod Forms

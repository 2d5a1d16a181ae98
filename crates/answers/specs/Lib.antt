pub mod Refusals
pub mod Answers
pub mod Promises
pub mod Claims

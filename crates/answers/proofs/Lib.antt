pub mod Refusals
pub mod Numbers
pub mod Answers
pub mod Parts
pub mod Fronts
pub mod Determined

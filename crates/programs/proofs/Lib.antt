pub mod ValueLines
pub mod Found
pub mod Outcomes
pub mod Theorems
pub mod Determined

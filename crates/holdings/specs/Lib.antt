pub mod Files
pub mod Answers
pub mod Terms
pub mod EntryLaws
pub mod Theorems

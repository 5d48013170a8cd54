pub mod Answers
pub mod Promises
pub mod Index
pub mod Extents

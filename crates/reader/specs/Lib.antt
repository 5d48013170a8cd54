pub mod Answers
pub mod Slots
pub mod Promises
pub mod OneAnswer

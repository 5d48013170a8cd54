pub mod ReadDefinitions
pub mod ReadLoops
pub mod ReadValues
pub mod ReadingAt
pub mod Retelling

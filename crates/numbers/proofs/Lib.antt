pub mod Reading
pub mod Writing
pub mod Shortest
pub mod LengthLaws
pub mod Loads

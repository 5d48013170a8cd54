pub mod Strings
pub mod AsciiRuns
pub mod AsciiLaws

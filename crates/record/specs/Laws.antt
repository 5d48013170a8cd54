pub mod Claimed
pub mod KnownLaws
pub mod Layouts
pub mod RowLaws
pub mod RowLengths
pub mod Short
pub mod TableLaws
pub mod Takes

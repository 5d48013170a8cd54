pub mod BareItems
pub mod RowItems
pub mod WritingAt
pub mod WrittenContents
pub mod WrittenItems
pub mod WrittenMessages
pub mod WrittenNames
pub mod WrittenValues

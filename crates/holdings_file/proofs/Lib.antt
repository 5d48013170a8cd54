pub mod EntryWalks
pub mod Stores
pub mod IndexChains
pub mod ShortMessages
pub mod FileChecks
pub mod FileExtents
pub mod Batches
pub mod Calls

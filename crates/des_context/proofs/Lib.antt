mod JoinedParts
mod KeysOfBytes
mod MacCases
mod MadeContexts
pub mod Marks
mod OpenedBlocks
pub mod PaddedCounts
mod PartWords
pub mod PasswordParts
mod ReadStatuses
mod RelationsByLength

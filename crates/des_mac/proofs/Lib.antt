mod KnownAnswers
pub mod Absorbing
pub mod ChainedBytes
pub mod Doubling
pub mod MaskedTags
pub mod PaddedBytes
pub mod RelatedMacs
pub mod RelatedRetailMacs
pub mod RelatedCmacs
pub mod ManyChains
pub mod MaskedBlocks
pub mod MaskedMessages
pub mod ManyCmacs
pub mod Accepted
pub mod MappedBlocks

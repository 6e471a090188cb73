pub mod BitPlaces
pub mod Pieces
pub mod CfbPlaces
pub mod SegmentBits
pub mod StreamPlaces
pub mod OnePlaintext
pub mod StreamsAlike
pub mod ChainedOutputs

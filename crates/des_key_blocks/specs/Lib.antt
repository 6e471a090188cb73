pub mod Hex
pub mod KeyBlockFaults
pub mod KeyBlockHeaders
pub mod OptionalBlocks
pub mod ProtectionKeys
pub mod KeyBlocks
pub mod KeyBlockReading

pub mod PaddedBytes
pub mod CipherModes
pub mod Streams
pub mod StreamFaults
pub mod StreamCiphers

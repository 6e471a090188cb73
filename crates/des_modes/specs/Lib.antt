pub mod Streams
pub mod Ctr
pub mod Ofb
pub mod Cfb
pub mod States
pub mod Modes

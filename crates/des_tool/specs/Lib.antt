pub mod Digits
pub mod Request
pub mod Fault
pub mod Status
pub mod Answer
pub mod Ciphers
pub mod Run

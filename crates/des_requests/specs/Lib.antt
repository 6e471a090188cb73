pub mod Inputs
pub mod LineFormats
pub mod StreamRequests

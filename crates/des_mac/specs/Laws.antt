-- What the laws of the traits rest on.
pub mod Paddings
pub mod Unambiguous

pub mod TkwSteps
pub mod Enclosed

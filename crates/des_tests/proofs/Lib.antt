pub mod KnownAnswers
pub mod KnownModes

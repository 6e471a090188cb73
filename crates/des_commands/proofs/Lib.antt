pub mod ObjectIdentifiers
pub mod TagsOfDigits
pub mod StreamStates
pub mod LineKinds
pub mod LineRuns
pub mod LineTexts
pub mod LinePieces
pub mod LineEnds

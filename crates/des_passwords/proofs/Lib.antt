pub mod BlockKeys
pub mod BlocksOfTexts
pub mod CopiedTexts
pub mod CountedDigests
pub mod DerivedDigests
pub mod DigitsOfText
pub mod IteratedTags
pub mod SplitKeys
pub mod StreamedDigits
pub mod JoinedParts
pub mod DerElements
pub mod DerIntegers
pub mod DerNumbers
pub mod KeyFiles
pub mod KeyReadings
pub mod KeySpellings
pub mod LinesOfBase64
pub mod LinesOfText
mod KnownAnswers
mod KnownBase64
mod KnownPem
mod KnownPkcs12
pub mod LinesOfPem
pub mod DecodedTexts
pub mod PasswordUnits
pub mod RaisedBlocks
pub mod XoredBytes

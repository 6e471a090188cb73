pub mod DerivationTexts

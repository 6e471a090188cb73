-- Texts that name no derivation.
use Rattle.std.proofs.Common.{◌≢◌, ℕ, List, ◌++◌, codes, Option, Some, None, IfSome, IfNone}
use Rattle.des_passwords.specs.declared.derivation.Derivation.{Derivation}
use Rattle.des_passwords.specs.declared.derivation.Derivation.TheVariants.{Md5, Sha1, Sha256, Pbkdf2Sha1, Pbkdf2Sha256}
use Rattle.des_arguments.specs.PasswordArguments.{IsCountedText, IsDerivationText}

-- a derivation with a count is one
pub text-counted : (text : List ℕ) (derivation : Derivation) → IsCountedText text derivation
    → IsDerivationText text derivation
text-counted text Md5 is = absurd is
text-counted text Sha1 is = absurd is
text-counted text Sha256 is = absurd is
text-counted text (Pbkdf2Sha1 count) is = is
text-counted text (Pbkdf2Sha256 count) is = is

-- neither word begins the text
pub counted-neither : (text : List ℕ) → ((rest : List ℕ) → text ≢ codes "pbkdf2-sha1:" ++ rest)
    → ((rest : List ℕ) → text ≢ codes "pbkdf2-sha256:" ++ rest)
    → (derivation : Derivation) → ¬ IsCountedText text derivation
counted-neither text first second Md5 is = is
counted-neither text first second Sha1 is = is
counted-neither text first second Sha256 is = is
counted-neither text first second (Pbkdf2Sha1 count) is = first is.0 is.1.0
counted-neither text first second (Pbkdf2Sha256 count) is = second is.0 is.1.0

pub none-neither : (text : List ℕ) (result : Option Derivation)
    → ((rest : List ℕ) → text ≢ codes "pbkdf2-sha1:" ++ rest)
    → ((rest : List ℕ) → text ≢ codes "pbkdf2-sha256:" ++ rest)
    → IfNone result ((derivation : Derivation) → ¬ IsCountedText text derivation)
none-neither text None first second = counted-neither text first second
none-neither text (Some derivation) first second = tt

-- no word is the text, and none begins it with a count
pub text-none : (text : List ℕ) → text ≢ codes "md5" → text ≢ codes "sha1" → text ≢ codes "sha256"
    → ((derivation : Derivation) → ¬ IsCountedText text derivation)
    → (derivation : Derivation) → ¬ IsDerivationText text derivation
text-none text md5 sha1 sha256 none Md5 is = md5 is
text-none text md5 sha1 sha256 none Sha1 is = sha1 is
text-none text md5 sha1 sha256 none Sha256 is = sha256 is
text-none text md5 sha1 sha256 none (Pbkdf2Sha1 count) is = none (Pbkdf2Sha1 count) is
text-none text md5 sha1 sha256 none (Pbkdf2Sha256 count) is = none (Pbkdf2Sha256 count) is

-- what is given of a text with a count is given of the text
pub some-counted : (text : List ℕ) (result : Option Derivation) → IfSome result (IsCountedText text)
    → IfSome result (IsDerivationText text)
some-counted text None given = tt
some-counted text (Some derivation) given = text-counted text derivation given

pub none-counted : (text : List ℕ) (result : Option Derivation) → text ≢ codes "md5" → text ≢ codes "sha1"
    → text ≢ codes "sha256" → IfNone result ((derivation : Derivation) → ¬ IsCountedText text derivation)
    → IfNone result ((derivation : Derivation) → ¬ IsDerivationText text derivation)
none-counted text None md5 sha1 sha256 given = text-none text md5 sha1 sha256 given
none-counted text (Some derivation) md5 sha1 sha256 given = tt

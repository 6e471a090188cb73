-- The modes by their numbers, and what a text becomes in each.
use Rattle.std.specs.Prelude.{◌⊎◌, ◌≡◌, ◌≤◌, ℕ, ◌+◌, ◌-◌, ◌*◌, List, nat_eq, if◌then◌else◌}
use Rattle.des.specs.Bits.{bits_of_bytes}
use Rattle.des_modes.specs.Ctr.{Ctr}
use Rattle.des_modes.specs.Ofb.{Ofb}
use Rattle.des_modes.specs.Cfb.{Cfb, CfbBits}
use Rattle.des_modes.specs.Streams.{Under}
use Rattle.des_modes.specs.declared.modes.Mode.{Mode}
use Rattle.des_modes.specs.declared.modes.Mode.TheVariants.{Counter, OutputFeedback, BitFeedback, CipherFeedback}
use Rattle.des_modes.specs.declared.modes.TheConstants.{CTR, OFB, CFB1}

-- the number is that of a mode
abbrev pub IsMode : ℕ → Type 0
IsMode number = (number ≡ CTR) ⊎ (number ≡ OFB) ⊎ ((CFB1 ≤ number) × (number ≤ CFB1 + 8))

-- the mode of a number: CFB with segments of s bytes has the number of CFB1 and s
abbrev pub mode_by : ℕ → Mode
mode_by number =
    if nat_eq number CTR then Counter else (if nat_eq number OFB then OutputFeedback
    else (if nat_eq number CFB1 then BitFeedback else CipherFeedback (number - CFB1)))

-- what the bytes p become under the encryption of a cipher
abbrev pub InMode : Mode → (List ℕ → List ℕ) → List ℕ → List ℕ → List ℕ → Type 0
InMode Counter encryption iv p c = Ctr encryption iv p c
InMode OutputFeedback encryption iv p c = Ofb encryption iv p c
InMode BitFeedback encryption iv p c = CfbBits 1 encryption iv (bits_of_bytes p) (bits_of_bytes c)
InMode (CipherFeedback s) encryption iv p c = Cfb s encryption iv p c

-- what they become under a relation of blocks, such as that of a key; CFB as its standards print it, by bits
abbrev pub InModeUnder : Mode → (List ℕ → List ℕ → Type 0) → List ℕ → List ℕ → List ℕ → Type 0
InModeUnder (CipherFeedback s) Encrypts iv p c =
    Under Encrypts (λ encryption. CfbBits (8 * s) encryption iv (bits_of_bytes p) (bits_of_bytes c))
InModeUnder mode Encrypts iv p c = Under Encrypts (λ encryption. InMode mode encryption iv p c)

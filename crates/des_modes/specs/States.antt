-- How far streams have come: by the parts of their states, and as machine words.
use Rattle.std.specs.Prelude.{◌≡◌, ℕ, ◌+◌, ◌/◌, ◌%◌, ◌^◌, ◌<◌, ◌≤◌, Bool, List, ◌++◌, length, drop}
use Rattle.std.specs.Int.{w64, from_be_bytes}
use Rattle.des.specs.Bits.{bits_of_bytes}
use Rattle.des.specs.Blocks.{AreBytes, IsBlock}
use Rattle.des_modes.specs.Cfb.{CfbBits, input_block}
use Rattle.des_modes.specs.Modes.{InMode, IsMode, mode_by}
use Rattle.des_modes.specs.Ofb.{output_block}
use Rattle.des_modes.specs.declared.modes.Mode.{Mode}
use Rattle.des_modes.specs.declared.modes.Mode.TheVariants.{Counter, OutputFeedback, BitFeedback, CipherFeedback}
use Rattle.des_modes.specs.declared.modes.TheConstants.{CFB1}
use Rattle.des_modes.specs.declared.place.Place.{Place}
use Rattle.des_modes.specs.declared.stream.Stream.{Stream}
use Rattle.des_modes.specs.declared.stream.TheConstants.{MARK}

-- OFB, after n bytes: the block is the last output block that they took from, of which n modulo 8 are taken, 0 for all
abbrev pub IsAtOutput : (List ℕ → List ℕ) → List ℕ → ℕ → List ℕ → ℕ → Type 0
IsAtOutput encryption iv n last taken = (last ≡ output_block encryption iv ((n + 7) / 8)) × (taken ≡ n % 8)

-- CFB, after the ciphertext c: the bytes are the last eight of IV | C; the block is the output block of a segment that has begun
pub record IsAtSegment (s : ℕ) (encryption : List ℕ → List ℕ) (iv c bytes block : List ℕ) (taken : ℕ) : Type 0 where
  pub register : bytes ≡ drop (length c) (iv ++ c)
  pub used : taken ≡ length c % s
  pub output : 1 ≤ taken → block ≡ encryption (input_block s iv c (length c / s))

-- CFB of one bit, after the bits c of ciphertext: the register holds the last 64 bits of IV | C
abbrev pub HoldsLastBits : (iv : List ℕ) (c : List Bool) (register : List ℕ) → Type 0
HoldsLastBits iv c register = bits_of_bytes register ≡ drop (length c) (bits_of_bytes iv ++ c)

-- the bytes of an output block that are used before the next
abbrev pub size_of : Mode → ℕ
size_of BitFeedback = 1
size_of (CipherFeedback s) = s
size_of mode = 8

-- the words are those of a stream that has begun, of this mode or of any
abbrev pub IsInMode : Mode → Stream → Type 0
IsInMode mode stream = (stream.mark ≡ MARK) × IsMode stream.mode × (mode ≡ mode_by stream.mode) × (stream.place.used < size_of mode)

abbrev pub HasBegun : Stream → Type 0
HasBegun stream = (stream.mark ≡ MARK) × IsMode stream.mode × (stream.place.used < size_of (mode_by stream.mode))

-- a place in its mode: in its register the counter, the last output block, or the last eight bytes of IV | C
abbrev pub IsPlace : Mode → (List ℕ → List ℕ) → List ℕ → List ℕ → Place → Type 0
IsPlace Counter encryption iv c place =
    (from_be_bytes w64 place.register ≡ (from_be_bytes w64 iv + length c / 8) % 2 ^ 64) × (place.used ≡ length c % 8)
IsPlace OutputFeedback encryption iv c place = IsAtOutput encryption iv (length c) place.register place.used
IsPlace BitFeedback encryption iv c place = HoldsLastBits iv (bits_of_bytes c) place.register × (place.used ≡ 0)
IsPlace (CipherFeedback s) encryption iv c place = IsAtSegment s encryption iv c place.register place.output place.used

-- a stream as machine words: in the mode of a number it took p to c under the encryption, and it goes on from there
pub record IsStreamAt (number : ℕ) (encryption : List ℕ → List ℕ) (iv p c : List ℕ) (stream : Stream) : Type 0 where
  pub begun : HasBegun stream
  pub is_mode : stream.mode ≡ number
  pub is_block : IsBlock iv
  pub are_bytes : AreBytes c
  pub place : IsPlace (mode_by number) encryption iv c stream.place
  pub made : InMode (mode_by number) encryption iv p c

-- in CFB of one bit it took the bits p to the bits c
pub record IsBitStreamAt (encryption : List ℕ → List ℕ) (iv : List ℕ) (p c : List Bool) (stream : Stream) : Type 0 where
  pub begun : HasBegun stream
  pub is_mode : stream.mode ≡ CFB1
  pub place : HoldsLastBits iv c stream.place.register × (stream.place.used ≡ 0)
  pub made : CfbBits 1 encryption iv p c

-- Streams under ciphers that encrypt blocks alike, and by the relation of a key.
use Rattle.std.proofs.Common.{◌≡◌, ℕ, zero, suc, ◌+◌, ◌*◌, ◌/◌, ◌%◌, ◌≤◌, Bool, List, length, get_or, ap, refl, sym, subst, ◌∙◌, arith}
use Rattle.std.proofs.Math.Nat.{mul-div-le}
use Rattle.des.specs.Bits.{bits_of_bytes}
use Rattle.des.specs.Blocks.{AreBytes, IsBlock}
use Rattle.des.specs.Relations.{AgreeOnBlocks, IsGraphOf}
use Rattle.des.specs.Laws.BlockBits.{IsBlock-block_of_bits, IsBlock-to_be_bytes}
use Rattle.des_modes.specs.Cfb.{CfbBits, block_bit}
use Rattle.des_modes.specs.Modes.{InMode, InModeUnder, mode_by}
use Rattle.des_modes.specs.Ofb.{output_block}
use Rattle.des_modes.specs.Streams.{Under}
use Rattle.des_modes.specs.States.{IsBitStreamAt, IsPlace, IsStreamAt, size_of}
use Rattle.des_modes.specs.declared.modes.Mode.{Mode}
use Rattle.des_modes.specs.declared.modes.Mode.TheVariants.{Counter, OutputFeedback, BitFeedback, CipherFeedback}
use Rattle.des_modes.specs.declared.place.Place.{Place}
use Rattle.des_modes.specs.declared.stream.Stream.{Stream}
use Rattle.des_modes.proofs.SegmentBits.{CfbBits-from_Cfb, IsBlock-input_block}
use Rattle.des_modes.proofs.StreamPlaces.{size_of-mode_by}
use Rattle.des_modes.proofs.Pieces.{Xors-other}

module _ (e f : List ℕ → List ℕ) (alike : AgreeOnBlocks e f) where
  CfbBits-alike : (iv : List ℕ) (p c : List Bool) → CfbBits 1 e iv p c → CfbBits 1 f iv p c
  CfbBits-alike iv p c =
      Xors-other 0 _ _ p c (λ i below. ap (λ (block : List ℕ). block_bit block ((0 + i) % 1)) (alike _ (IsBlock-block_of_bits _)))

  IsBitStreamAt-alike : (iv : List ℕ) (p c : List Bool) (stream : Stream) → IsBitStreamAt e iv p c stream
      → IsBitStreamAt f iv p c stream
  IsBitStreamAt-alike iv p c stream is =
      record { begun = is.begun; is_mode = is.is_mode; place = is.place; made = CfbBits-alike iv p c is.made }

  module _ (makes : (block : List ℕ) → IsBlock block → IsBlock (e block)) (iv c : List ℕ) (is_iv : IsBlock iv)
      (bytes : AreBytes c) where
    output_block-alike : (j : ℕ) → IsBlock (output_block e iv j) × (output_block e iv j ≡ output_block f iv j)
    output_block-alike zero = (is_iv, refl)
    output_block-alike (suc j) =
        let (is, same) = output_block-alike j in (makes _ is, alike _ is ∙ ap f same)

    IsPlace-alike : (mode : Mode) (place : Place) → IsPlace mode e iv c place → IsPlace mode f iv c place
    IsPlace-alike Counter place at = at
    IsPlace-alike OutputFeedback place at = (at.0 ∙ (output_block-alike _).1, at.1)
    IsPlace-alike BitFeedback place at = at
    IsPlace-alike (CipherFeedback s) place at = record {
      register = at.register;
      used = at.used;
      output = λ more. at.output more ∙ alike _ (IsBlock-input_block s iv c _ is_iv bytes (mul-div-le (length c) s));
    }

    InMode-alike : (mode : Mode) (p : List ℕ) → InMode mode e iv p c → InMode mode f iv p c
    InMode-alike Counter p =
        Xors-other 0 _ _ p c (λ i below. ap (λ (block : List ℕ). get_or block ((0 + i) % 8) 0) (alike _ (IsBlock-to_be_bytes _)))
    InMode-alike OutputFeedback p =
        Xors-other 0 _ _ p c (λ i below. ap (λ (block : List ℕ). get_or block ((0 + i) % 8) 0) (output_block-alike _).1)
    InMode-alike BitFeedback p = CfbBits-alike iv (bits_of_bytes p) (bits_of_bytes c)
    InMode-alike (CipherFeedback s) p = λ made.
        Xors-other 0 _ _ p c (λ i below.
        let begun : s * ((0 + i) / s) ≤ length c = omega (arith, mul-div-le (0 + i) s, made.count) in
        ap (λ (block : List ℕ). get_or block ((0 + i) % s) 0) (alike _ (IsBlock-input_block s iv c _ is_iv bytes begun)))
        made

  IsStreamAt-alike : (number : ℕ) (iv p c : List ℕ) (stream : Stream)
      → ((block : List ℕ) → IsBlock block → IsBlock (e block)) → IsStreamAt number e iv p c stream
      → IsStreamAt number f iv p c stream
  IsStreamAt-alike number iv p c stream makes is = record {
    begun = is.begun;
    is_mode = is.is_mode;
    is_block = is.is_block;
    are_bytes = is.are_bytes;
    place = IsPlace-alike makes iv c is.is_block is.are_bytes (mode_by number) stream.place is.place;
    made = InMode-alike makes iv c is.is_block is.are_bytes (mode_by number) p is.made;
  }

-- a cipher whose encryption takes blocks to blocks and, of them, is that of a key
module _ (e k : List ℕ → List ℕ) (alike : AgreeOnBlocks e k) (makes : (block : List ℕ) → IsBlock block → IsBlock (e block)) where
  makes_too : (block : List ℕ) → IsBlock block → IsBlock (k block)
  makes_too block is = subst IsBlock (alike block is) (makes block is)

  pub IsStreamAt-by_key : (number : ℕ) (iv p c others more : List ℕ) (old new : Stream)
      → (IsStreamAt number e iv p c old → IsStreamAt number e iv others more new)
      → IsStreamAt number k iv p c old → IsStreamAt number k iv others more new
  IsStreamAt-by_key number iv p c others more old new goes_on is =
      IsStreamAt-alike e k alike number iv others more new makes
      (goes_on (IsStreamAt-alike k e (λ block is. sym (alike block is)) number iv p c old makes_too is))

  pub IsBitStreamAt-by_key : (iv : List ℕ) (p c others more : List Bool) (old new : Stream)
      → (IsBitStreamAt e iv p c old → IsBitStreamAt e iv others more new)
      → IsBitStreamAt k iv p c old → IsBitStreamAt k iv others more new
  IsBitStreamAt-by_key iv p c others more old new goes_on is =
      IsBitStreamAt-alike e k alike iv others more new
      (goes_on (IsBitStreamAt-alike k e (λ block is. sym (alike block is)) iv p c old is))

  module _ (Encrypts : List ℕ → List ℕ → Type 0) (graph : IsGraphOf e Encrypts) where
    under : {Made : (List ℕ → List ℕ) → Type 0} → Made k → Under Encrypts Made
    under made = record { encryption = k; encrypts = λ block is. (graph block (k block)).1 (is, alike block is); made = made }

    InModeUnder-from : (mode : Mode) (iv p c : List ℕ) → (1 ≤ size_of mode) × (size_of mode ≤ 8) → IsBlock iv → AreBytes c
        → InMode mode k iv p c → InModeUnder mode Encrypts iv p c
    InModeUnder-from Counter iv p c sound is_iv bytes = under
    InModeUnder-from OutputFeedback iv p c sound is_iv bytes = under
    InModeUnder-from BitFeedback iv p c sound is_iv bytes = under
    InModeUnder-from (CipherFeedback s) iv p c sound is_iv bytes = λ made.
        under (CfbBits-from_Cfb s k iv p c sound.0 sound.1 is_iv bytes makes_too made)

    pub InModeUnder-by_key : (number : ℕ) (iv p c : List ℕ) (stream : Stream) → IsStreamAt number k iv p c stream
        → InModeUnder (mode_by number) Encrypts iv p c
    InModeUnder-by_key number iv p c stream is =
        InModeUnder-from (mode_by number) iv p c (size_of-mode_by number (rw (← is.is_mode) is.begun.1)) is.is_block is.are_bytes
        is.made

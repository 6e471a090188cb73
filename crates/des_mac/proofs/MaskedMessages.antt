-- The blocks that CMAC chains of a message: with nothing after it, or a one bit and zeros.
use Rattle.std.proofs.Common.{◌≡◌, ℕ, ◌+◌, ◌/◌, ◌<◌, ◌≤◌, List, [], ◌++◌, length, inl, inr, sym, ap, subst, ◌∙◌, arith, length-append}
use Rattle.std.proofs.Math.Nat.{eq-or-lt_of_le}
use Rattle.std.proofs.lemmas.List.{append-nil}
use Rattle.des.specs.Cbc.{xor_blocks}
use Rattle.des_mac.specs.Padding.{last_count, AreWholeBlocks, one_bit_after, padded}
use Rattle.des_mac.specs.CbcMac.{block_after}
use Rattle.des_mac.specs.Cmac.{subkey_1, subkey_2, masked, masked_message}
use Rattle.des_mac.specs.Laws.Paddings.{AreWholeBlocks-one_bit_after}
use Rattle.des_mac.proofs.MaskedTags.{masked_message-whole, masked_message-part, AreWholeBlocks-full}
use Rattle.des_mac.proofs.MaskedBlocks.{length-masked, block-last, block-before}
use Rattle.des_mac.proofs.RelatedCmacs.{IsBlock-doubled}

-- the message with a padding after it, masked by a subkey
record IsMaskedBy (zeros m padding subkey : List ℕ) : Type 0 where
  masked_is : masked_message zeros m ≡ masked subkey (m ++ padding)
  whole : AreWholeBlocks (length (m ++ padding))
  width : length subkey ≡ 8

by_first : (zeros m padding : List ℕ) → last_count (length m) ≡ 8 → padding ≡ []
    → IsMaskedBy zeros m padding (subkey_1 zeros)
by_first zeros m padding full none =
    let same : m ++ padding ≡ m = ap (λ (rest : List ℕ). m ++ rest) none ∙ append-nil m in record {
      masked_is = masked_message-whole zeros m full ∙ ap (masked (subkey_1 zeros)) (sym same);
      whole = subst (λ (bytes : List ℕ). AreWholeBlocks (length bytes)) (sym same) (AreWholeBlocks-full m full);
      width = (IsBlock-doubled zeros).0;
    }

by_second : (zeros m padding : List ℕ) → last_count (length m) < 8 → padding ≡ one_bit_after (length m)
    → IsMaskedBy zeros m padding (subkey_2 zeros)
by_second zeros m padding part one_bit =
    let same : padded one_bit_after m ≡ m ++ padding = ap (λ (rest : List ℕ). m ++ rest) (sym one_bit) in
    let whole : AreWholeBlocks (length (padded one_bit_after m)) =
    rw (length-append m (one_bit_after (length m))) (AreWholeBlocks-one_bit_after (length m)) in record {
      masked_is = masked_message-part zeros m part ∙ ap (masked (subkey_2 zeros)) same;
      whole = subst (λ (bytes : List ℕ). AreWholeBlocks (length bytes)) same whole;
      width = (IsBlock-doubled (subkey_1 zeros)).0;
    }

module _ (zeros m padding : List ℕ) (none : last_count (length m) ≡ 8 → padding ≡ [])
    (one_bit : last_count (length m) < 8 → padding ≡ one_bit_after (length m)) where
  is_masked : (subkey : List ℕ) × IsMaskedBy zeros m padding subkey
  is_masked =
      let most : last_count (length m) ≤ 8 = omega arith in
      elim (eq-or-lt_of_le most) [
        | inl full ↦ (subkey_1 zeros, by_first zeros m padding full (none full))
        | inr part ↦ (subkey_2 zeros, by_second zeros m padding part (one_bit part))
      ]

  -- by a subkey that is chosen by the last block
  is_masked_by : (subkey : List ℕ) → (last_count (length m) ≡ 8 → subkey ≡ subkey_1 zeros)
      → (last_count (length m) < 8 → subkey ≡ subkey_2 zeros) → IsMaskedBy zeros m padding subkey
  is_masked_by subkey first second =
      let most : last_count (length m) ≤ 8 = omega arith in
      elim (eq-or-lt_of_le most) [
        | inl full ↦ subst (IsMaskedBy zeros m padding) (sym (first full)) (by_first zeros m padding full (none full))
        | inr part ↦
            subst (IsMaskedBy zeros m padding) (sym (second part)) (by_second zeros m padding part (one_bit part))
      ]

  -- as many blocks as the message and the padding have
  pub masked_message-count : length (masked_message zeros m) / 8 ≡ (length m + length padding) / 8
  masked_message-count =
      let is = is_masked in
      ap (λ (bytes : List ℕ). length bytes / 8) is.1.masked_is
      ∙ ap (λ (n : ℕ). n / 8) (length-masked is.0 (m ++ padding) is.1.width is.1.whole ∙ length-append m padding)

  -- the last one is xored with the subkey
  pub masked_message-last : (subkey : List ℕ) → (last_count (length m) ≡ 8 → subkey ≡ subkey_1 zeros)
      → (last_count (length m) < 8 → subkey ≡ subkey_2 zeros) → (i : ℕ) → i + 1 ≡ (length m + length padding) / 8
      → xor_blocks (block_after (m ++ padding) i) subkey ≡ block_after (masked_message zeros m) i
  masked_message-last subkey first second i ends =
      let is = is_masked_by subkey first second in
      sym (ap (λ (bytes : List ℕ). block_after bytes i) is.masked_is
      ∙ block-last subkey (m ++ padding) is.width is.whole i (ends
      ∙ ap (λ (n : ℕ). n / 8) (sym (length-append m padding))))

  -- and those before it are as they were
  pub masked_message-before : (i : ℕ) → i + 1 < (length m + length padding) / 8
      → block_after (m ++ padding) i ≡ block_after (masked_message zeros m) i
  masked_message-before i before =
      let is = is_masked in
      let more : i + 1 < length (m ++ padding) / 8 =
      subst (λ (n : ℕ). i + 1 < n / 8) (sym (length-append m padding)) before in
      sym (ap (λ (bytes : List ℕ). block_after bytes i) is.1.masked_is
      ∙ block-before is.0 (m ++ padding) is.1.width is.1.whole i more)

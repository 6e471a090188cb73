-- The blocks of bytes of which the last block is masked.
use Rattle.std.proofs.Common.{◌≡◌, ℕ, ◌+◌, ◌-◌, ◌*◌, ◌/◌, ◌<◌, ◌≤◌, List, ◌++◌, length, take, drop, sym, ap, ◌∙◌, arith, length-append, length-take-le, drop_at}
use Rattle.std.proofs.lemmas.List.{length-drop, take_all, get_or-take, get_or-drop, get_or_append_left}
use Rattle.des.specs.Cbc.{xor_blocks}
use Rattle.des.proofs.XoredBlocks.{length-xor_blocks}
use Rattle.des_mac.specs.Padding.{AreWholeBlocks}
use Rattle.des_mac.proofs.ManyChains.{bytes-from}
use Rattle.des_mac.specs.CbcMac.{block_after}
use Rattle.des_mac.specs.Cmac.{masked}

module _ (subkey m : List ℕ) (width : length subkey ≡ 8) (whole : AreWholeBlocks (length m)) where
  abbrev front : List ℕ
  front = take (length m - 8) m

  abbrev last : List ℕ
  last = xor_blocks (drop (length m - 8) m) subkey

  long : length front ≡ length m - 8
  long = length-take-le (length m - 8) m (omega (arith, whole.1))

  eight : length last ≡ 8
  eight =
      length-xor_blocks (drop (length m - 8) m) subkey (omega (arith, length-drop (length m - 8) m, whole.1, width))
      ∙ omega (arith, length-drop (length m - 8) m, whole.1)

  -- it is as long
  pub length-masked : length (masked subkey m) ≡ length m
  unfolding masked
  length-masked = omega (arith, length-append front last, long, eight, whole.1)

  -- the last block is xored with the subkey
  pub block-last : (i : ℕ) → i + 1 ≡ length m / 8
      → block_after (masked subkey m) i ≡ xor_blocks (block_after m i) subkey
  unfolding masked
  block-last i ends =
      let place : 8 * i ≡ length m - 8 = omega (arith, whole.0, whole.1) in
      let rest : length (drop (8 * i) m) ≡ 8 = omega (arith, length-drop (8 * i) m, whole.1) in
      ap (λ (n : ℕ). take 8 (drop n (front ++ last))) place
      ∙ ap (take 8) (drop_at front last (length m - 8) long)
      ∙ take_all 8 last (omega (arith, eight))
      ∙ ap (λ (n : ℕ). xor_blocks (drop n m) subkey) (sym place)
      ∙ ap (λ (block : List ℕ). xor_blocks block subkey) (sym (take_all 8 (drop (8 * i) m) (omega (arith, rest))))

  -- and the others are as they were
  pub block-before : (i : ℕ) → i + 1 < length m / 8 → block_after (masked subkey m) i ≡ block_after m i
  unfolding masked
  block-before i before =
      let place : ℕ = 8 * i in
      let bytes : List ℕ = front ++ last in
      let inside : place + 8 ≤ length m - 8 = omega (arith, before) in
      let left : length (drop place bytes) ≡ length bytes - place = length-drop place bytes in
      let size : length bytes ≡ length m = length-masked in
      bytes-from (take 8 (drop place bytes)) m place
      (length-take-le 8 (drop place bytes) (omega (arith, left, size, inside)))
      (omega (arith, inside))
      (λ k low.
      get_or-take 8 (drop place bytes) k 0 low
      ∙ get_or-drop place bytes k 0
      ∙ get_or_append_left front last 0 (place + k) (omega (arith, long, low, inside))
      ∙ get_or-take (length m - 8) m (place + k) 0 (omega (arith, low, inside)))

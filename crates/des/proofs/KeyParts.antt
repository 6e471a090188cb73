-- The parts of a key: keys of eight bytes, a list of them that is searched place by place, and the keys that the weak
-- key test refuses.
use Rattle.std.proofs.Common.{◌≡◌, ℕ, zero, suc, ◌+◌, ◌-◌, ◌*◌, ◌/◌, ◌<◌, ◌≤◌, List, [], length, take, drop, get_or, inl, inr, refl, sym, ap, ◌∙◌, subst, arith}
use Rattle.std.specs.Simd.{first_chunks}
use Rattle.std.proofs.lemmas.List.{get_or-take, get_or_default, drop-drop, length-take-le, length-drop}
use Rattle.std.proofs.lemmas.List.Elements.{All-take, All-drop, Contains-get_or}
use Rattle.des.specs.Blocks.{IsKey, part}
use Rattle.des.specs.Parity.{AgreeOutsideParity, ContainsAgreeing}
use Rattle.des.specs.WeakKeys.{listed_keys, IsPartOf, IsRefusedByList}

-- a part of a key of bytes is a key of eight bytes
pub IsKey-part : (n size : ℕ) (key : List ℕ) → IsKey size key → 1 ≤ n → 8 * n ≤ size → IsKey 8 (part n key)
IsKey-part n size key is_key from within =
    let rest : List ℕ = drop (8 * (n - 1)) key in
    let IsByte : ℕ → Type 0 = λ byte. byte < 256 in (
      length-take-le 8 rest (omega (arith, length-drop (8 * (n - 1)) key, is_key.0)),
      All-take IsByte 8 rest (All-drop IsByte (8 * (n - 1)) key is_key.1),
    )

-- the chunk at an index is the part of the next number
pub get_or-first_chunks : (k i : ℕ) (s : List ℕ) → i < k → get_or (first_chunks 8 k s) i [] ≡ take 8 (drop (8 * i) s)
get_or-first_chunks zero i s within = absurd (omega arith)
get_or-first_chunks (suc k) zero s within = refl
get_or-first_chunks (suc k) (suc i) s within =
    get_or-first_chunks k i (drop 8 s) (omega arith)
    ∙ ap (take 8) (drop-drop (8 * i) 8 s)
    ∙ ap (λ (n : ℕ). take 8 (drop n s)) (omega arith)

-- the parts of a key, each under its number
module _ (key : List ℕ) (parts : List (List ℕ)) (cut : parts ≡ first_chunks 8 (length key / 8) key)
    (count : length parts ≡ length key / 8) where
  part_at : (i : ℕ) → i < length key / 8 → get_or parts i [] ≡ part (i + 1) key
  part_at i within =
      ap (λ (chunks : List (List ℕ)). get_or chunks i []) cut
      ∙ get_or-first_chunks (length key / 8) i key within
      ∙ ap (λ (n : ℕ). take 8 (drop (8 * n) key)) (omega arith)

  part_of : (n : ℕ) → IsPartOf key n → get_or parts (n - 1) [] ≡ part n key
  part_of n is_part =
      part_at (n - 1) (omega (arith, is_part.0, is_part.1)) ∙ ap (λ (m : ℕ). part m key) (omega (arith, is_part.0))

  -- a part that agrees with a listed key outside parity refuses the key
  pub IsRefusedByList-listed : (i : ℕ) → i < length key / 8 → ContainsAgreeing listed_keys (get_or parts i [])
      → IsRefusedByList key
  IsRefusedByList-listed i within listed =
      let P : List ℕ → Type 0 = ContainsAgreeing listed_keys in
      inl (i + 1, ((omega arith, omega arith), subst P (part_at i within) listed))

  -- and so does a part that agrees with one before it
  pub IsRefusedByList-agreeing : (i : ℕ) → i < length key / 8 → ContainsAgreeing (take i parts) (get_or parts i [])
      → IsRefusedByList key
  IsRefusedByList-agreeing i within found =
      let k : ℕ = found.1.0.0 in
      let other : List ℕ = found.0 in
      let before : k < i = omega (arith, found.1.0.1, length-take-le i parts (omega (arith, count))) in
      let earlier : part (k + 1) key ≡ other =
      sym (part_at k (omega arith))
      ∙ get_or_default parts k [] other (omega (arith, count))
      ∙ sym (get_or-take i parts k other before)
      ∙ found.1.0.2 in
      let agree : AgreeOutsideParity (part (k + 1) key) (part (i + 1) key) =
      rw (earlier, ← part_at i within) found.1.1 in
      inr (k + 1, (i + 1, ((omega arith, omega arith), (omega arith, omega arith), omega arith, agree)))

  -- if no part agrees with a listed key, and none with a part before it, the key is not refused
  pub not_refused : ((i : ℕ) → i < length key / 8
      → ¬ (ContainsAgreeing listed_keys (get_or parts i [])) × ¬ (ContainsAgreeing (take i parts) (get_or parts i [])))
      → ¬ (IsRefusedByList key)
  not_refused each refused = elim refused [
    | inl listed ↦
        let n : ℕ = listed.0 in
        let is_part : IsPartOf key n = listed.1.0 in
        let within : n - 1 < length key / 8 = omega arith in
        let P : List ℕ → Type 0 = ContainsAgreeing listed_keys in
        (each (n - 1) within).0 (subst P (sym (part_of n is_part)) listed.1.1)
    | inr agreeing ↦
        let m : ℕ = agreeing.0 in
        let n : ℕ = agreeing.1.0 in
        let m_part : IsPartOf key m = agreeing.1.1.0 in
        let n_part : IsPartOf key n = agreeing.1.1.1 in
        let less : m < n = agreeing.1.1.2 in
        let before : m - 1 < n - 1 = omega arith in
        let front : List (List ℕ) = take (n - 1) parts in
        let earlier : get_or front (m - 1) [] ≡ part m key =
        get_or-take (n - 1) parts (m - 1) [] before ∙ part_of m m_part in
        let contained =
        Contains-get_or front (m - 1) [] (omega (arith, length-take-le (n - 1) parts (omega (arith, count)))) in
        let agree : AgreeOutsideParity (get_or front (m - 1) []) (get_or parts (n - 1) []) =
        rw (earlier, part_of n n_part) agreeing.1.1.3 in
        (each (n - 1) (omega arith)).1 (get_or front (m - 1) [], (contained, agree))
  ]

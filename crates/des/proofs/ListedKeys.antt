-- The keys that agree with a listed key outside parity are exactly those of the listed class: the halves of each key of
-- the list pass a test of the class, and the halves of a key of the class are two of eight patterns, which are those of
-- a listed key.
use Rattle.std.proofs.Common.{◌≡◌, ◌↔◌, ℕ, ◌&&◌, ◌||◌, List, Bool, true, length, inl, inr, refl, subst}
use Rattle.std.specs.List.{list_all, list_any}
use Rattle.std.specs.Cmp.Lexicographic.{pointwise}
use Rattle.std.proofs.Math.Bool.{beq}
use Rattle.std.proofs.lemmas.Bool.{and_parts, or_cases}
use Rattle.std.proofs.lemmas.List.Elements.{All-contains}
use Rattle.std.proofs.lemmas.List.Sums.{AllPass-from_list_all}
use Rattle.std.proofs.lemmas.List.Folds.{Any-from_list_any}
use Rattle.des.specs.Bits.{bits_of, bits_of_bytes, select}
use Rattle.des.specs.Blocks.{IsKey, AreBytes, part}
use Rattle.des.specs.Complement.{complement_bits}
use Rattle.des.specs.KeySchedule.{rotate, c_half, d_half}
use Rattle.des.specs.Parity.{ContainsAgreeing}
use Rattle.des.specs.KeyHalves.{IsListedHalf}
use Rattle.des.specs.WeakKeys.{listed_keys, IsListed, IsRefused, IsRefusedByList}
use Rattle.des.proofs.HalfPatterns.{at_all_patterns, at_listed_halves, same_bits}
use Rattle.des.proofs.KeyParts.{IsKey-part}
use Rattle.des.proofs.KeySelections.{halves-agreeing, AgreeOutsideParity-halves}
use Rattle.des.proofs.RoundKeys.{length-c_half, length-d_half}

-- ---- from the list to the class

-- whether a half is of the listed class
abbrev is_listed_half : List Bool → Bool
is_listed_half half = pointwise beq (rotate half 2) half || pointwise beq (rotate half 2) (complement_bits half)

-- a half that passes the test is of the class
IsListedHalf-from_test : (half : List Bool) → is_listed_half half ≡ true → IsListedHalf half
IsListedHalf-from_test half passes =
    elim (or_cases (pointwise beq (rotate half 2) half) (pointwise beq (rotate half 2) (complement_bits half)) passes) [
      | inl same ↦ inl (same_bits (rotate half 2) half same)
      | inr other ↦ inr (same_bits (rotate half 2) (complement_bits half) other)
    ]

-- whether the halves of a key are of the listed class
abbrev has_listed_halves : List ℕ → Bool
has_listed_halves key = is_listed_half (c_half (bits_of_bytes key)) && is_listed_half (d_half (bits_of_bytes key))

-- those of each listed key are
listed_keys_pass : list_all has_listed_halves listed_keys ≡ true
unfolding bits_of bits_of_bytes select c_half d_half rotate
listed_keys_pass = refl

-- a key that agrees with one of the list outside parity has its halves, and so is of the class
IsListed-from_agreeing : (key : List ℕ) → IsKey 8 key → ContainsAgreeing listed_keys key → IsListed key
IsListed-from_agreeing key is_key found =
    let each = AllPass-from_list_all has_listed_halves listed_keys listed_keys_pass in
    let passes = All-contains (λ other. has_listed_halves other ≡ true) listed_keys found.0 each found.1.0 in
    let tests = and_parts _ _ passes in
    let same = halves-agreeing found.0 key found.1.1 in (
      is_key,
      (
        subst IsListedHalf same.0 (IsListedHalf-from_test _ tests.0),
        subst IsListedHalf same.1 (IsListedHalf-from_test _ tests.1),
      ),
    )

-- ---- from the class to the list

-- whether a key has these halves
abbrev has_halves : List Bool → List Bool → List ℕ → Bool
has_halves c d key = pointwise beq (c_half (bits_of_bytes key)) c && pointwise beq (d_half (bits_of_bytes key)) d

-- whether a listed key has them
abbrev are_listed_halves : List Bool → List Bool → Bool
are_listed_halves c d = list_any (has_halves c d) listed_keys

-- each two patterns are the halves of a listed key
patterns_pass : at_all_patterns are_listed_halves ≡ true
unfolding bits_of bits_of_bytes select c_half d_half
patterns_pass = refl

-- a key of the class has the halves of a key of the list, and so agrees with it outside parity
ContainsAgreeing-listed : (key : List ℕ) → IsListed key → ContainsAgreeing listed_keys key
ContainsAgreeing-listed key listed =
    let c : List Bool = c_half (bits_of_bytes key) in
    let d : List Bool = d_half (bits_of_bytes key) in
    let passes =
    at_listed_halves are_listed_halves patterns_pass c d (length-c_half (bits_of_bytes key))
    (length-d_half (bits_of_bytes key)) listed.1.0 listed.1.1 in
    let found = Any-from_list_any (has_halves c d) listed_keys passes in
    let weak : List ℕ = found.1 in
    let weak_c : List Bool = c_half (bits_of_bytes weak) in
    let weak_d : List Bool = d_half (bits_of_bytes weak) in
    let same = and_parts (pointwise beq weak_c c) (pointwise beq weak_d d) found.4 in
    let agree = AgreeOutsideParity-halves weak key (same_bits weak_c c same.0) (same_bits weak_d d same.1) in
    (weak, ((found.0, found.2, found.3), agree))

-- ---- refused keys

-- what is so exactly if a key is refused by the list is so exactly if it is refused by the class
pub refused_by_class : (key : List ℕ) (Verdict : Type 0) → AreBytes key → Verdict ↔ IsRefusedByList key
    → Verdict ↔ IsRefused key
refused_by_class key Verdict bytes by_list = (
  λ verdict. elim (by_list.0 verdict) [
    | inl listed ↦
        let n : ℕ = listed.0 in
        let is_key : IsKey 8 (part n key) = IsKey-part n (length key) key (refl, bytes) listed.1.0.0 listed.1.0.1 in
        inl (n, (listed.1.0, IsListed-from_agreeing (part n key) is_key listed.1.1))
    | inr agreeing ↦ inr agreeing
  ],
  λ refused. elim refused [
    | inl listed ↦ by_list.1 (inl (listed.0, (listed.1.0, ContainsAgreeing-listed (part listed.0 key) listed.1.1)))
    | inr agreeing ↦ by_list.1 (inr agreeing)
  ],
)

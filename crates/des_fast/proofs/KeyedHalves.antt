-- Half blocks with a round key xored in, from round to round.
use Rattle.std.proofs.Common.{◌≡◌, ℕ, ◌+◌, ◌*◌, ◌%◌, ◌<◌, List, [], Bool, length, take, slice_index_or, bit_xor, sym, ap, ap₂, ◌∙◌, arith}
use Rattle.std.specs.Int.Bits.{xor_self, xor_zero_r, xor_assoc}
use Rattle.std.proofs.lemmas.Nat.{xor_comm}
use Rattle.std.proofs.lemmas.List.{take_all}
use Rattle.des.specs.Rounds.{after_rounds}
use Rattle.des.specs.Laws.RoundsUndone.{next_half}
use Rattle.des_fast.specs.declared.halves.RoundKey.{RoundKey}
use Rattle.des_fast.specs.Groups.{IsOfGroups, IsExpansion, bits_of_groups, half_of}
use Rattle.des_fast.specs.HalfBlocks.{round_keys_of}
use Rattle.des_fast.specs.RoundKeyChanges.{key_word, change_word}
use Rattle.des_fast.specs.SideBySide.{IsSubstitutedInto, in_direction}
use Rattle.des_fast.proofs.GroupWords.{IsOfGroups-xor}
use Rattle.des_fast.proofs.RoundKeysByPlace.{key_word-bits}
use Rattle.des_fast.proofs.RoundPairs.{after_rounds-two_more}
use Rattle.des_fast.proofs.RoundsSideBySide.{IsOfGroups-mixed, IsExpansion-next, half_of-next, length-in_direction}

-- a key put in and taken out
xor-out : (half key : ℕ) → bit_xor (bit_xor half key) key ≡ half
xor-out half key = xor_assoc half key key ∙ ap (bit_xor half) (xor_self key) ∙ xor_zero_r half

-- a word joined to one with a key
xor-beside_key : (half word key : ℕ) → bit_xor (bit_xor half word) key ≡ bit_xor (bit_xor half key) word
xor-beside_key half word key =
    xor_assoc half word key ∙ ap (bit_xor half) (xor_comm word key) ∙ sym (xor_assoc half key word)

-- a key changed for another
xor-changed : (half old new : ℕ) → bit_xor (bit_xor half (bit_xor old new)) new ≡ bit_xor half old
xor-changed half old new =
    ap (λ word. bit_xor word new) (sym (xor_assoc half old new)) ∙ xor-out (bit_xor half old) new

-- ---- one word

-- a word is the expansion of a half block, but for a key
pub record IsKeyed (key word : ℕ) : Type 0 where
  pub of_groups : IsOfGroups word
  pub expansion : IsExpansion (bit_xor word key)

-- the half block
abbrev keyed_half : ℕ → ℕ → List Bool
keyed_half key word = half_of (bit_xor word key)

IsKeyed-first : (key half word : ℕ) → word ≡ bit_xor half key → IsExpansion half → IsOfGroups key → IsKeyed key word
IsKeyed-first key half word is is_expansion of_groups = record {
  of_groups = IsOfGroups-mixed word half key is is_expansion of_groups;
  expansion = rw (ap (λ it. bit_xor it key) is ∙ xor-out half key) is_expansion;
}

-- what is joined to a word is joined to it without the key
joined-beside_key : (key left right next : ℕ) (made : IsSubstitutedInto left right next)
    → bit_xor next key ≡ bit_xor (bit_xor left key) made.change
joined-beside_key key left right next made =
    ap (λ word. bit_xor word key) made.joined ∙ xor-beside_key left made.change key

IsKeyed-next : (key left right next : ℕ) → IsSubstitutedInto left right next → IsKeyed key left → IsKeyed key next
IsKeyed-next key left right next made is = record {
  of_groups = rw made.joined (IsOfGroups-xor left made.change is.of_groups made.expansion.of_groups);
  expansion = IsExpansion-next _ _ _ (joined-beside_key key left right next made) is.expansion made.expansion;
}

keyed_half-next : (left_key right_key left right next : ℕ) → IsSubstitutedInto left right next → IsKeyed right_key right
    → keyed_half left_key next
    ≡ next_half (keyed_half left_key left) (keyed_half right_key right) (bits_of_groups right_key)
keyed_half-next left_key right_key left right next made is =
    half_of-next _ _ _ _ _ _ (joined-beside_key left_key left right next made) (sym (xor-out right right_key))
    is.expansion made.substituted

with_new : (old new change word changed : ℕ) → changed ≡ bit_xor word change → change ≡ bit_xor old new
    → bit_xor changed new ≡ bit_xor word old
with_new old new change word changed is_changed is_change =
    ap (λ it. bit_xor it new) (is_changed ∙ ap (bit_xor word) is_change) ∙ xor-changed word old new

IsKeyed-changed : (old new change word changed : ℕ) → changed ≡ bit_xor word change → change ≡ bit_xor old new
    → IsOfGroups change → IsKeyed old word → IsKeyed new changed
IsKeyed-changed old new change word changed is_changed is_change of_groups is = record {
  of_groups = rw is_changed (IsOfGroups-xor word change is.of_groups of_groups);
  expansion = rw (with_new old new change word changed is_changed is_change) is.expansion;
}

-- ---- the two words of a block

-- the words after 2 * i rounds, each with the round key that it meets next
pub record AreAfterRounds (deciphers : Bool) (round_keys : List RoundKey) (i : ℕ) (first second : List Bool)
    (left right : ℕ) : Type 0 where
  pub left_keyed : IsKeyed (key_word deciphers round_keys ((2 * i + 1) % 16)) left
  pub right_keyed : IsKeyed (key_word deciphers round_keys (2 * i % 16)) right
  pub halves : (
    keyed_half (key_word deciphers round_keys ((2 * i + 1) % 16)) left,
    keyed_half (key_word deciphers round_keys (2 * i % 16)) right,
  )
      ≡ after_rounds (take (2 * i) (in_direction deciphers (round_keys_of round_keys))) first second

-- before the first
pub AreAfterRounds-none : (deciphers : Bool) (round_keys : List RoundKey) (first second left right left_key right_key : ℕ)
    → left_key ≡ key_word deciphers round_keys 1 → right_key ≡ key_word deciphers round_keys 0
    → IsOfGroups left_key → IsOfGroups right_key
    → left ≡ bit_xor first left_key → right ≡ bit_xor second right_key → IsExpansion first → IsExpansion second
    → AreAfterRounds deciphers round_keys 0 (half_of first) (half_of second) left right
unfolding after_rounds
AreAfterRounds-none deciphers round_keys first second left right left_key right_key is_left is_right left_of right_of
    has_left has_right left_is right_is =
    let with_left : left ≡ bit_xor first (key_word deciphers round_keys 1) = has_left ∙ ap (bit_xor first) is_left in
    let with_right : right ≡ bit_xor second (key_word deciphers round_keys 0) = has_right ∙ ap (bit_xor second) is_right in
    record {
      left_keyed = IsKeyed-first _ first left with_left left_is (rw (sym is_left) left_of);
      right_keyed = IsKeyed-first _ second right with_right right_is (rw (sym is_right) right_of);
      halves = ap₂ (λ (l r : ℕ). (half_of l, half_of r))
          (ap (λ it. bit_xor it (key_word deciphers round_keys 1)) with_left ∙ xor-out first (key_word deciphers round_keys 1))
          (ap (λ it. bit_xor it (key_word deciphers round_keys 0)) with_right ∙ xor-out second (key_word deciphers round_keys 0));
    }

-- two more
pub AreAfterRounds-two_more : (deciphers : Bool) (round_keys : List RoundKey) (i : ℕ) (first second : List Bool)
    (left right made changed made_right changed_left change change_left : ℕ) → length round_keys ≡ 16 → i < 8
    → AreAfterRounds deciphers round_keys i first second left right
    → IsSubstitutedInto left right made
    → changed ≡ bit_xor right change → change ≡ change_word deciphers round_keys (2 * i) → IsOfGroups change
    → IsSubstitutedInto changed made made_right
    → changed_left ≡ bit_xor made change_left → change_left ≡ change_word deciphers round_keys (2 * i + 1)
    → IsOfGroups change_left
    → AreAfterRounds deciphers round_keys (i + 1) first second changed_left made_right
AreAfterRounds-two_more deciphers round_keys i first second left right made changed made_right changed_left change change_left
    size below are makes is_changed is_change change_of makes_right is_changed_left is_change_left change_left_of =
    let keys : List (List Bool) = in_direction deciphers (round_keys_of round_keys) in
    let key : ℕ → ℕ = key_word deciphers round_keys in
    let count : length keys ≡ 16 = length-in_direction deciphers round_keys ∙ size in
    let left_key : ℕ = key ((2 * i + 1) % 16) in
    let right_key : ℕ = key (2 * i % 16) in
    let next_left_key : ℕ = key ((2 * (i + 1) + 1) % 16) in
    let next_right_key : ℕ = key (2 * (i + 1) % 16) in
    let at = λ (n m : ℕ) (same : n ≡ m). ap key same in
    let right_change : change ≡ bit_xor right_key next_right_key =
    is_change ∙ ap₂ bit_xor (at (2 * i) (2 * i % 16) (omega arith)) (at ((2 * i + 2) % 16) (2 * (i + 1) % 16) (omega arith)) in
    let left_change : change_left ≡ bit_xor left_key next_left_key =
    is_change_left
    ∙ ap₂ bit_xor (at (2 * i + 1) ((2 * i + 1) % 16) (omega arith))
    (at ((2 * i + 1 + 2) % 16) ((2 * (i + 1) + 1) % 16) (omega arith)) in
    let made_keyed = IsKeyed-next left_key left right made makes are.left_keyed in
    let changed_keyed =
    IsKeyed-changed right_key next_right_key change right changed is_changed right_change change_of are.right_keyed in
    let bits = λ (n : ℕ) (within : n < length round_keys). key_word-bits deciphers round_keys n within in
    let right_bits : bits_of_groups right_key ≡ slice_index_or keys (2 * i) [] =
    ap bits_of_groups (at (2 * i % 16) (2 * i) (omega arith)) ∙ bits (2 * i) (omega arith) in
    let left_bits : bits_of_groups left_key ≡ slice_index_or keys (2 * i + 1) [] =
    ap bits_of_groups (at ((2 * i + 1) % 16) (2 * i + 1) (omega arith)) ∙ bits (2 * i + 1) (omega arith) in
    record {
      left_keyed = IsKeyed-changed left_key next_left_key change_left made changed_left is_changed_left left_change
          change_left_of made_keyed;
      right_keyed = IsKeyed-next next_right_key changed made made_right makes_right changed_keyed;
      halves =
          ap (λ (word : ℕ). (half_of word, keyed_half next_right_key made_right))
          (with_new left_key next_left_key change_left made changed_left is_changed_left left_change)
          ∙ after_rounds-two_more keys i first second (keyed_half left_key left) (keyed_half right_key right)
          (keyed_half left_key made) (keyed_half next_right_key made_right) (omega (arith, count)) are.halves
          (keyed_half-next left_key right_key left right made makes are.right_keyed
          ∙ ap (next_half (keyed_half left_key left) (keyed_half right_key right)) right_bits)
          (keyed_half-next next_right_key left_key changed made made_right makes_right made_keyed
          ∙ ap₂ (λ (word : ℕ) (k : List Bool). next_half (half_of word) (keyed_half left_key made) k)
          (with_new right_key next_right_key change right changed is_changed right_change) left_bits);
    }

-- after all, without the keys, which are the first two again
pub after_rounds-without_keys : (deciphers : Bool) (round_keys : List RoundKey) (i : ℕ) (first second : List Bool)
    (left right last_left last_right left_key right_key : ℕ) → length round_keys ≡ 16 → i ≡ 8
    → left_key ≡ key_word deciphers round_keys 1 → right_key ≡ key_word deciphers round_keys 0
    → AreAfterRounds deciphers round_keys i first second left right
    → last_left ≡ bit_xor left left_key → last_right ≡ bit_xor right right_key
    → (half_of last_left, half_of last_right)
    ≡ after_rounds (in_direction deciphers (round_keys_of round_keys)) first second
after_rounds-without_keys deciphers round_keys i first second left right last_left last_right left_key right_key size all
    is_left is_right are without_left without_right =
    let keys : List (List Bool) = in_direction deciphers (round_keys_of round_keys) in
    let at = λ (n m : ℕ) (same : n ≡ m). ap (key_word deciphers round_keys) same in
    ap₂ (λ (l r : ℕ). (half_of l, half_of r))
    (without_left ∙ ap (bit_xor left) (is_left ∙ at 1 ((2 * i + 1) % 16) (omega arith)))
    (without_right ∙ ap (bit_xor right) (is_right ∙ at 0 (2 * i % 16) (omega arith)))
    ∙ are.halves
    ∙ ap (λ ks. after_rounds ks first second)
    (take_all (2 * i) keys (omega (arith, length-in_direction deciphers round_keys)))

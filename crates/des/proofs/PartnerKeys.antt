-- Partner keys: the one's round keys are the other's in the opposite order, so the one enciphers as the other
-- deciphers.
use Rattle.std.proofs.Common.{◌≡◌, ◌↔◌, ℕ, suc, ◌-◌, ◌<◌, ◌≤◌, List, [], Bool, map, get_or, reverse, IsTrue, refl, one-add, sym, ap, ◌∙◌, subst, arith}
use Rattle.std.specs.List.{range_with_len}
use Rattle.std.proofs.lemmas.List.{reverse-reverse, ext_get_or}
use Rattle.std.proofs.lemmas.List.FromFn.{get_or-map-range_with_len}
use Rattle.des.specs.Bits.{bits_of_bytes}
use Rattle.des.specs.Blocks.{IsKey}
use Rattle.des.specs.Des.{encryption, decryption}
use Rattle.des.specs.Enciphering.{Enciphers}
use Rattle.des.specs.KeySchedule.{round_key, key_schedule}
use Rattle.des.specs.KeyHalves.{ArePartners}
use Rattle.des.specs.Rounds.{block_by_keys}
use Rattle.des.proofs.RoundKeys.{length-c_half, length-d_half}
use Rattle.des.proofs.Graphs.{IsGraphOf-encryption, IsGraphOf-decryption}
use Rattle.des.proofs.RoundKeyPlaces.{key_schedule-halves}
use Rattle.des.proofs.ReversedRoundKeys.{reversed_from_turned, turned_from_reversed}

-- two keys are partners exactly if the one's round keys are the other's in the opposite order
reversed_round_keys : (key partner : List ℕ) → ArePartners key partner ↔ (key_schedule (bits_of_bytes partner) ≡ reverse (key_schedule (bits_of_bytes key)))
reversed_round_keys key partner = (
  λ partners.
      key_schedule-halves (bits_of_bytes partner)
      ∙ reversed_from_turned _ _ _ _ (length-c_half (bits_of_bytes key)) (length-d_half (bits_of_bytes key))
      (partners.repeats.0, partners.repeats.1, partners.c_rotated, partners.d_rotated)
      ∙ ap reverse (sym (key_schedule-halves (bits_of_bytes key))),
  λ reversed.
      let turned =
      turned_from_reversed _ _ _ _
      (length-c_half (bits_of_bytes key))
      (length-d_half (bits_of_bytes key))
      (length-c_half (bits_of_bytes partner))
      (length-d_half (bits_of_bytes partner))
      (sym (key_schedule-halves (bits_of_bytes partner)) ∙ reversed
      ∙ ap reverse (key_schedule-halves (bits_of_bytes key))) in
      record { repeats = (turned.0, turned.1); c_rotated = turned.2; d_rotated = turned.3 },
)

-- a list of round keys is that of another key in the opposite order exactly if each is the one with the number from
-- the end
reversed_by_number : (key partner : List Bool) → (key_schedule partner ≡ reverse (key_schedule key))
    ↔ ((i : ℕ) → 1 ≤ i → i ≤ 16 → round_key partner i ≡ round_key key (17 - i))
unfolding key_schedule
reversed_by_number key partner =
    let theirs : ℕ → List Bool = λ i. round_key partner i in
    let ours : ℕ → List Bool = λ i. round_key key (17 - i) in
    let at : (keys : ℕ → List Bool) (k : ℕ) → k < 16 → get_or (map keys (range_with_len 1 16)) k [] ≡ keys (suc k) =
    λ keys k below. get_or-map-range_with_len keys 1 16 k (suc k) [] below (one-add k) in (
      λ reversed i from to.
          let number : suc (i - 1) ≡ i = omega arith in
          rw number at (sym (at theirs (i - 1) (omega arith)) ∙ ap (λ keys. get_or keys (i - 1) []) reversed
          ∙ at ours (i - 1) (omega arith)),
      λ each. ext_get_or [] (key_schedule partner) (reverse (key_schedule key)) refl (λ k below.
          at theirs k below ∙ each (suc k) (omega arith) (omega arith) ∙ sym (at ours k below)),
    )

-- the same of partners
reversed_numbers : (key partner : List ℕ) → ArePartners key partner
    ↔ ((i : ℕ) → 1 ≤ i → i ≤ 16 → round_key (bits_of_bytes partner) i ≡ round_key (bits_of_bytes key) (17 - i))
reversed_numbers key partner =
    let by_lists = reversed_round_keys key partner in
    let by_number = reversed_by_number (bits_of_bytes key) (bits_of_bytes partner) in
    (λ partners. by_number.0 (by_lists.0 partners), λ each. by_lists.1 (by_number.1 each))

-- decryption under a partner is encryption under the key
decryption-partner : (key partner : List ℕ) → ArePartners key partner → (block : List ℕ)
    → decryption partner block ≡ encryption key block
decryption-partner key partner partners block =
    ap (λ keys. block_by_keys keys block)
    (ap reverse ((reversed_round_keys key partner).0 partners)
    ∙ reverse-reverse (key_schedule (bits_of_bytes key)))

-- DES under a key takes a block to another exactly if DES under its partner takes the other to the first
Enciphers-partners : (key partner : List ℕ) → IsKey 8 key → IsKey 8 partner → ArePartners key partner → (x y : List ℕ)
    → Enciphers key x y ↔ Enciphers partner y x
Enciphers-partners key partner is_key partner_is_key partners x y =
    let same : decryption partner x ≡ encryption key x =
    decryption-partner key partner partners x in
    let forth = IsGraphOf-encryption key is_key x y in
    let back = IsGraphOf-decryption partner partner_is_key x y in (
      λ enciphers. let made = forth.0 enciphers in back.1 (made.0, same ∙ made.1),
      λ enciphers. let made = back.0 enciphers in forth.1 (made.0, sym same ∙ made.1),
    )

-- DES twice under a key that is its own partner takes each block to itself
Enciphers-own_partner : (key : List ℕ) → IsKey 8 key → ArePartners key key → (x y z : List ℕ) → Enciphers key x y
    → Enciphers key y z → z ≡ x
Enciphers-own_partner key is_key partners x y z first second =
    let back = (IsGraphOf-encryption key is_key y x).0
    ((Enciphers-partners key key is_key is_key partners x y).0 first) in
    let forth = (IsGraphOf-encryption key is_key y z).0 second in
    sym forth.1 ∙ back.1

-- what a test that tells partners says besides
pub told_by_partners : (result : Bool) (key partner : List ℕ) → IsKey 8 key → IsKey 8 partner
    → IsTrue result ↔ ArePartners key partner → (IsTrue result
    ↔ ((i : ℕ) → 1 ≤ i → i ≤ 16 → round_key (bits_of_bytes partner) i ≡ round_key (bits_of_bytes key) (17 - i)))
    × (IsTrue result → (x y : List ℕ) → Enciphers key x y ↔ Enciphers partner y x)
    × (IsTrue result → key ≡ partner → (x y z : List ℕ) → Enciphers key x y → Enciphers key y z → z ≡ x)
told_by_partners result key partner is_key partner_is_key told =
    let by_number = reversed_numbers key partner in (
      (λ yes. by_number.0 (told.0 yes), λ each. told.1 (by_number.1 each)),
      λ yes. Enciphers-partners key partner is_key partner_is_key (told.0 yes),
      λ yes same. Enciphers-own_partner key is_key (subst (ArePartners key) (sym same) (told.0 yes)),
    )

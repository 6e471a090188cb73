-- Passes under parts of keys, written one by one.
use Rattle.std.proofs.Common.{◌≡◌, ℕ, ◌+◌, ◌<◌, ◌≤◌, Bool, true, false, List, [], length, map, get_or, refl, ap₂, sym, subst, ◌∙◌, arith, take}
use Rattle.std.proofs.Math.ListN.{set}
use Rattle.std.proofs.Math.Bool.{beq}
use Rattle.std.proofs.lemmas.List.{length-map, map-set, ext_get_or, take_all}
use Rattle.des.specs.Blocks.{part}
use Rattle.des_fast.specs.declared.many.lanes.PassPart.{PassPart}
use Rattle.des_fast.specs.declared.slices.keys.PassSlices.{PassSlices}
use Rattle.des_fast.specs.EachKey.{round_keys_under, round_keys_of_parts}
use Rattle.des_fast.specs.SpreadKeys.{AreSlicesFor}
use Rattle.des_fast.proofs.WrittenElements.{written_below}

-- what holds of the values of elements below i holds below i + 1 with the element at i written
pub mapped_written_below : {X Y : Type 0} (read : X → Y) (d : Y) (P : ℕ → Y → Type 0) (xs : List X) (i : ℕ) (x : X)
    → i < length xs
    → ((m : ℕ) → m < i → P m (get_or (map read xs) m d)) → P i (read x)
    → (m : ℕ) → m < i + 1 → P m (get_or (map read (set xs i x)) m d)
mapped_written_below read d P xs i x inside each here m below =
    let in_map : i < length (map read xs) = rw (length-map xs read) inside in
    subst (λ ys. P m (get_or ys m d)) (sym (map-set read xs i x))
    (written_below P (map read xs) i (read x) d in_map each here m below)

-- round keys of all passes under the parts of a key
pub all_spread : {X : Type 0} (read : X → List (List Bool)) (passes : List X) (parts : List PassPart) (key : List ℕ) (n : ℕ)
    → length passes ≡ length parts → length parts ≤ n
    → ((m : ℕ) → m < n → get_or (map read passes) m [] ≡ get_or (round_keys_of_parts parts key) m [])
    → map read passes ≡ round_keys_of_parts parts key
all_spread read passes parts key n count all each =
    let of_part : PassPart → List (List Bool) = λ p. round_keys_under p.deciphers (part p.number key) in
    let width : length (map read passes) ≡ length parts = length-map passes read ∙ count in
    ext_get_or [] (map read passes) (round_keys_of_parts parts key) (width ∙ sym (length-map parts of_part))
    (λ m below. each m (omega arith))

-- two parts of the same number and direction have the same round keys
beq-true : (x y : Bool) → beq x y ≡ true → x ≡ y
beq-true true true h = refl
beq-true true false h = cc
beq-true false true h = cc
beq-true false false h = refl

pub round_keys_under-same : (p q : PassPart) (key : List ℕ) → p.number ≡ q.number → beq p.deciphers q.deciphers ≡ true
    → round_keys_under q.deciphers (part q.number key) ≡ round_keys_under p.deciphers (part p.number key)
round_keys_under-same p q key number direction =
    ap₂ (λ (deciphers : Bool) (n : ℕ). round_keys_under deciphers (part n key))
    (sym (beq-true p.deciphers q.deciphers direction)) (sym number)

-- so are the slices of a single cipher, if there are no others
pub AreSlicesFor-one : {A : Type 0} (batch : ℕ) (bit : ℕ → A → Bool) (slices : List (PassSlices A))
    (answer : List ℕ → List ℕ) → length slices ≡ 1 → AreSlicesFor batch bit (take 1 slices) answer
    → AreSlicesFor batch bit slices answer
AreSlicesFor-one batch bit slices answer count are =
    subst (λ passes. AreSlicesFor batch bit passes answer) (take_all 1 slices (omega arith)) are

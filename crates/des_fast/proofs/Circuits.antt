-- Circuits of gates as data, and what they make of the bits of each block of a batch.
use Rattle.std.proofs.Common.{◌≡◌, ℕ, ◌==◌, Bool, true, not, ◌&&◌, ◌||◌, List, [], ◌∷◌, ◌++◌, length, map, get_or, refl, ap, ◌∙◌, arith}
use Rattle.std.proofs.lemmas.Bool.{eqb-true}
use Rattle.des.specs.Bits.{bit, bits_of, number_of, select, xor as xor_bit}
use Rattle.des.specs.Tables.{Box}
use Rattle.des.specs.CipherFunction.{box_entry}
use Rattle.des.specs.Laws.Selections.{length-select}
use Rattle.des_fast.specs.Slices.{InEachBlock}
use Rattle.des_fast.proofs.TableTests.{in_all_ways, in_all_ways-at, bits_of-written}

infixr 5 ◌▸◌
-- a gate, of the values at positions from 1
pub data Gate : Type 0 where
  complement : ℕ → Gate
  and : ℕ → ℕ → Gate
  and_not : ℕ → ℕ → Gate
  or : ℕ → ℕ → Gate
  xor : ℕ → ℕ → Gate

-- gates, each of which makes one value more, and the positions of the values that come out
pub record Circuit : Type 0 where
  pub gates : List Gate
  pub outputs : List ℕ

-- a gate on bits
abbrev pub on_bits : Gate → List Bool → Bool
on_bits (complement i) bits = not (bit bits i)
on_bits (and i j) bits = bit bits i && bit bits j
on_bits (and_not i j) bits = bit bits i && not (bit bits j)
on_bits (or i j) bits = bit bits i || bit bits j
on_bits (xor i j) bits = xor_bit (bit bits i) (bit bits j)

-- the bits with those of gates after them
abbrev pub run : List Gate → List Bool → List Bool
run [] bits = bits
run (gate ∷ gates) bits = run gates (bits ++ on_bits gate bits ∷ [])

-- what a circuit makes of bits
abbrev pub output_bits : Circuit → List Bool → List Bool
output_bits circuit inputs = select circuit.outputs (run circuit.gates inputs)

-- the bits of each block before the gates and after them, where each gate makes the next bit
pub data Makes : ℕ → List Gate → (ℕ → List Bool) → (ℕ → List Bool) → Type 0 where
  done : {batch : ℕ} {bits : ℕ → List Bool} → Makes batch [] bits bits
  ◌▸◌ : {batch : ℕ} {gate : Gate} {gates : List Gate} {bits all : ℕ → List Bool} {made : ℕ → Bool}
      → InEachBlock batch (λ b. made b ≡ on_bits gate (bits b))
      → Makes batch gates (λ b. bits b ++ made b ∷ []) all → Makes batch (gate ∷ gates) bits all

-- they are what the gates make
run-makes : (batch : ℕ) (gates : List Gate) (bits all : ℕ → List Bool) → Makes batch gates bits all
    → InEachBlock batch (λ b. all b ≡ run gates (bits b))
run-makes _ _ _ _ (done {batch} {bits}) b within = refl
run-makes _ _ _ _ (◌▸◌ {batch} {gate} {gates} {bits} {all} {made} is rest) b within =
    run-makes batch gates _ all rest b within
    ∙ ap (λ (value : Bool). run gates (bits b ++ value ∷ [])) (is b within)

-- whether a circuit makes the entry of a box of each group of six bits
abbrev pub is_circuit_of : Box → Circuit → Bool
is_circuit_of box circuit =
    in_all_ways 6 (λ group. number_of (output_bits circuit group) == box_entry box group)

-- such a circuit makes the bits of the entry of any group
output_bits-entry : (box : Box) (circuit : Circuit) (group : List Bool) → is_circuit_of box circuit ≡ true
    → length circuit.outputs ≡ 4 → length group ≡ 6 → output_bits circuit group ≡ bits_of 4 (box_entry box group)
output_bits-entry box circuit group each four six =
    let agrees : List Bool → Bool = λ bits. number_of (output_bits circuit bits) == box_entry box bits in
    bits_of-written 4 _ (output_bits circuit group) (length-select _ _ ∙ four)
    (eqb-true _ _ (in_all_ways-at 6 agrees each group six))

-- six elements, one by one
six_listed : {A : Type 0} (xs : List A) (d0 d1 d2 d3 d4 d5 : A) → length xs ≡ 6
    → get_or xs 0 d0 ∷ get_or xs 1 d1 ∷ get_or xs 2 d2 ∷ get_or xs 3 d3 ∷ get_or xs 4 d4 ∷ get_or xs 5 d5 ∷ [] ≡ xs
six_listed (x0 ∷ x1 ∷ x2 ∷ x3 ∷ x4 ∷ x5 ∷ []) d0 d1 d2 d3 d4 d5 six = refl
six_listed xs d0 d1 d2 d3 d4 d5 six = absurd (omega arith)

-- so do bits that its gates make of the six of a group
pub made-entry : {A : Type 0} (batch : ℕ) (bit : ℕ → A → Bool) (box : Box) (circuit : Circuit) (group : List A)
    (d0 d1 d2 d3 d4 d5 : A) (all : ℕ → List Bool)
    → is_circuit_of box circuit ≡ true → length circuit.outputs ≡ 4 → length group ≡ 6
    → Makes batch circuit.gates (λ b. map (bit b)
    (get_or group 0 d0 ∷ get_or group 1 d1 ∷ get_or group 2 d2 ∷ get_or group 3 d3 ∷ get_or group 4 d4
    ∷ get_or group 5 d5 ∷ [])) all
    → InEachBlock batch (λ b. select circuit.outputs (all b) ≡ bits_of 4 (box_entry box (map (bit b) group)))
made-entry {A = A} batch bit box circuit group d0 d1 d2 d3 d4 d5 all each four six made b within =
    let listed = six_listed group d0 d1 d2 d3 d4 d5 six in
    ap (select circuit.outputs) (run-makes batch circuit.gates _ all made b within)
    ∙ output_bits-entry box circuit _ each four refl
    ∙ ap (λ (elements : List A). bits_of 4 (box_entry box (map (bit b) elements))) listed

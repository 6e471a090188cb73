use Rattle.std.proofs.Common.{◌≡◌, ◌*◌, List, [], ◌∷◌, Bool, length, take, drop, bit_xor, refl, take_at, length-append, arith}
use Rattle.des.specs.Bits.{bits_of_word, select, zeros, xor_bits}
use Rattle.des.specs.Tables.{Box, selection_functions, expansion}
use Rattle.des.specs.CipherFunction.{substitute_by, substitute, cipher_function}
use Rattle.des.specs.Laws.BitLists.{length-bits_of}
use Rattle.des.specs.Laws.Selections.{length-select}
use Rattle.des.proofs.BitParts.{take-bits_of_xor, mod-zeros}
use Rattle.des.proofs.utils.f.Goals as goal

-- four bits for each box
length-substitute_by : (boxes : List Box) (bits : List Bool) → length (substitute_by boxes bits) ≡ 4 * length boxes
unfolding substitute_by
length-substitute_by [] bits = refl
length-substitute_by (box ∷ boxes) bits =
    simp (length-append, length-bits_of, length-substitute_by boxes (drop 6 bits)) (omega arith)

-- the boxes answer 32 bits
length-substitute : (bits : List Bool) → length (substitute bits) ≡ 32
length-substitute bits = length-substitute_by selection_functions bits

-- the boxes leave the last 32 bits zero
pub p-requires : goal.p-requires
p-requires c =
    let boxed = take 48 (bits_of_word (bit_xor c.e.result c.args.key)) in
    mod-zeros 32 32 c.apply_sboxes.result (substitute boxed) (length-substitute boxed)
    c.apply_sboxes.ensures.substituted

-- each step's first bits are what the definition passes to the next one
pub returns : goal.returns
unfolding cipher_function
returns c =
    let half = take 32 (bits_of_word c.args.half_block) in
    let key = take 48 (bits_of_word c.args.key) in
    let boxed = take 48 (bits_of_word (bit_xor c.e.result c.args.key)) in
    let expanded : take 48 (bits_of_word c.e.result) ≡ select expansion half =
    rw c.e.ensures.selected (take_at (select expansion half) (zeros 16) 48 (length-select expansion half)) in
    let mixed : boxed ≡ xor_bits (select expansion half) key =
    rw expanded at (take-bits_of_xor 48 16 c.e.result c.args.key) in
    let replaced : take 32 (bits_of_word c.apply_sboxes.result) ≡ substitute (xor_bits (select expansion half) key) =
    rw (c.apply_sboxes.ensures.substituted, ← mixed)
    (take_at (substitute boxed) (zeros 32) 32 (length-substitute boxed)) in
    rw replaced at c.p.ensures.selected

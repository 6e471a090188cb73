-- What a lane answers whose passes are those of parts of its key.
use Rattle.std.proofs.Common.{◌≡◌, ℕ, Bool, true, false, List, [], ◌∷◌, length, map, get_or, ap, sym, ◌∙◌, arith}
use Rattle.std.proofs.lemmas.List.{map-id, take_all}
use Rattle.des.specs.Blocks.{part}
use Rattle.des.specs.Des.{encryption, decryption}
use Rattle.des.specs.TripleCiphers.{triple_encryption, triple_decryption}
use Rattle.des_fast.specs.declared.slices.keys.PassSlices.{PassSlices}
use Rattle.des_fast.specs.declared.many.lanes.PassPart.{PassPart}
use Rattle.des_fast.specs.RoundKeySlices.{round_keys_in}
use Rattle.des_fast.specs.Passes.{block_through_passes}
use Rattle.des_fast.specs.EachKey.{round_keys_of_parts, triple_parts, lane_output}
use Rattle.des_fast.specs.LaneKeys.{block_in}
use Rattle.des_fast.proofs.ThreePasses.{block_through_passes-three}

-- a key that is the whole of its first part
part-whole : (key : List ℕ) → length key ≡ 8 → part 1 key ≡ key
part-whole key size = take_all 8 key (omega arith)

-- the answer of a lane, by what passes under parts of its key answer
pub lane-by_parts : {A : Type 0} (bit : A → Bool) (passes : List (PassSlices A)) (parts : List PassPart)
    (answer : List ℕ → List ℕ → List ℕ) (keys : List (List ℕ)) (k : ℕ)
    → map (round_keys_in bit) passes ≡ round_keys_of_parts parts (get_or keys k [])
    → block_through_passes (round_keys_of_parts parts (get_or keys k [])) ≡ answer (get_or keys k [])
    → lane_output bit passes ≡ answer (get_or (map (λ key. key) keys) k [])
lane-by_parts bit passes parts answer keys k spread is =
    ap block_through_passes spread
    ∙ is
    ∙ ap (λ (xs : List (List ℕ)). answer (get_or xs k [])) (sym (map-id keys))

-- one pass under the first part of a key that has no other
pub one_part : (deciphers : Bool) (key : List ℕ) → length key ≡ 8
    → block_through_passes (round_keys_of_parts (record { number = 1; deciphers = deciphers } ∷ []) key)
    ≡ block_in deciphers encryption decryption key
one_part true key size = ap decryption (part-whole key size)
one_part false key size = ap encryption (part-whole key size)

-- the passes of a triple cipher under its parts
pub three_parts : (has_three second deciphers : Bool) (key : List ℕ)
    → block_through_passes (round_keys_of_parts (triple_parts has_three second deciphers) key)
    ≡ block_in deciphers (triple_encryption has_three second) (triple_decryption has_three second) key
three_parts true true true key = block_through_passes-three _ _ _
three_parts true true false key = block_through_passes-three _ _ _
three_parts true false true key = block_through_passes-three _ _ _
three_parts true false false key = block_through_passes-three _ _ _
three_parts false true true key = block_through_passes-three _ _ _
three_parts false true false key = block_through_passes-three _ _ _
three_parts false false true key = block_through_passes-three _ _ _
three_parts false false false key = block_through_passes-three _ _ _

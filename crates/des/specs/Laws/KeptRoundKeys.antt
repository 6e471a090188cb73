-- Words that hold the round keys of a key answer as the key does.
use Rattle.std.proofs.Common.{◌≡◌, ℕ, List, Bool, length, map, take, ap, sym, ◌∙◌, take_at}
use Rattle.std.specs.List.{range_with_len}
use Rattle.std.proofs.lemmas.Simd.{map-map}
use Rattle.std.proofs.Math.Path.{fun_ext}
use Rattle.des.specs.Bits.{bits_of_word, bits_of_bytes, zeros}
use Rattle.des.specs.Tables.{permuted_choice_2}
use Rattle.des.specs.KeySchedule.{key_schedule, round_key}
use Rattle.des.specs.RoundKeyWords.{HoldRoundKeys, round_keys_of}
use Rattle.des.specs.Rounds.{block_by_keys}
use Rattle.des.specs.Laws.Passes.{Agree}
use Rattle.des.specs.Laws.Selections.{length-select}

-- a round key has 48 bits
length-round_key : (key : List Bool) (i : ℕ) → length (round_key key i) ≡ 48
unfolding round_key
length-round_key key i = length-select permuted_choice_2 _

-- words that hold the round keys of a key have them in their first 48 bits
pub round_keys_of-HoldRoundKeys : (words : List ℕ) (key : List Bool) → HoldRoundKeys words key
    → round_keys_of words ≡ key_schedule key
unfolding round_keys_of key_schedule
round_keys_of-HoldRoundKeys words key kept =
    sym (map-map (take 48) (λ word. bits_of_word word) words)
    ∙ ap (map (take 48)) kept
    ∙ ap (λ (keys : ℕ → List Bool). map keys (range_with_len 1 16))
    (fun_ext (λ i. take_at (round_key key i) (zeros 16) 48 (length-round_key key i)))

-- they answer a block as the key does, in each order of the round keys
pub Agree-kept : (order : List (List Bool) → List (List Bool)) (words key : List ℕ)
    → HoldRoundKeys words (bits_of_bytes key) → Agree (block_by_keys (order (round_keys_of words)))
    (block_by_keys (order (key_schedule (bits_of_bytes key))))
Agree-kept order words key kept = record {
  at = λ block is_block.
      ap (λ keys. block_by_keys (order keys) block)
      (round_keys_of-HoldRoundKeys words (bits_of_bytes key) kept);
}

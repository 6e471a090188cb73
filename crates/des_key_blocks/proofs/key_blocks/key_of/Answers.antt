use Rattle.std.proofs.Common.{◌≡◌, ℕ, ◌+◌, ◌*◌, ◌/◌, List, ◌++◌, length, take, drop, replicate, get_or, ap, ◌∙◌, arith}
use Rattle.std.proofs.lemmas.List.{take_at, length-take, length-drop}
use Rattle.des_key_blocks.proofs.KeyDataBytes.{IsBits, is_key-read, key_data-read}
use Rattle.des_key_blocks.proofs.key_blocks.key_of.Goals as goal

-- the key after its length, and the padding after the key
pub returns-clause-opened : goal.returns-clause-opened
returns-clause-opened c =
    let bytes : List ℕ = c.args.bytes.now in
    let bits : ℕ = 256 * get_or bytes 0 0 + get_or bytes 1 0 in
    let is_bits : IsBits bits = grind arith in
    let copied : List ℕ = c.copy_from_slice.new.self in
    let rest : List ℕ = drop (bits / 8) (replicate 24 0) in
    let is_copied : copied ≡ take (bits / 8) (drop 2 bytes) =
    c.copy_from_slice.ensures.after ∙ ap (λ n. take n (drop 2 bytes)) (omega arith) in
    let count : length copied ≡ bits / 8 =
    omega (arith, ap length is_copied, length-take {A = ℕ}, length-drop {A = ℕ}) in
    let key : take (bits / 8) (copied ++ rest) ≡ take (bits / 8) (drop 2 bytes) =
    take_at copied rest (bits / 8) count ∙ is_copied in (
      drop (bits / 8) (drop 2 bytes),
      (
        key_data-read bytes (take (bits / 8) (copied ++ rest)) bits is_bits c.if-bits-bytes.false key (omega arith),
        is_key-read bytes (take (bits / 8) (copied ++ rest)) bits is_bits c.if-bits-bytes.false key,
      ),
    )

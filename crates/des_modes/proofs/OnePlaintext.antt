-- A ciphertext has one plaintext, in each mode.
use Rattle.std.proofs.Common.{◌≡◌, ◌<◌, ℕ, List, [], ◌∷◌, ◌++◌, refl, ap, ap₂, arith, length, length-append, take, take_at}
use Rattle.std.proofs.lemmas.List.{append_cancel_left}
use Rattle.std.proofs.lemmas.List.Elements.{All-tail}
use Rattle.des.specs.Bits.{bits_of, bits_of_bytes, number_of}
use Rattle.des.specs.Blocks.{AreBytes}
use Rattle.des.specs.Laws.BitLists.{length-bits_of, number_of-bits_of}
use Rattle.des_modes.specs.Modes.{InMode}
use Rattle.des_modes.specs.declared.modes.Mode.{Mode}
use Rattle.des_modes.specs.declared.modes.Mode.TheVariants.{Counter, OutputFeedback, BitFeedback, CipherFeedback}
use Rattle.des_modes.proofs.BitPlaces.{bits-append}
use Rattle.des_modes.proofs.Pieces.{Xors-one, bits_undone, bytes_undone}

bytes_of_bits : (a b : List ℕ) → AreBytes a → AreBytes b → bits_of_bytes a ≡ bits_of_bytes b → a ≡ b
unfolding bits_of_bytes
bytes_of_bits [] [] are_a are_b same = refl
bytes_of_bits [] (y ∷ b) are_a are_b same =
    absurd (omega (arith, ap length same, length-append (bits_of 8 y) (bits_of_bytes b), length-bits_of 8 y))
bytes_of_bits (x ∷ a) [] are_a are_b same =
    absurd (omega (arith, ap length same, length-append (bits_of 8 x) (bits_of_bytes a), length-bits_of 8 x))
bytes_of_bits (x ∷ a) (y ∷ b) are_a are_b same =
    let same_byte : bits_of 8 x ≡ bits_of 8 y = cc (
      ap (take 8) same,
      take_at (bits_of 8 x) (bits_of_bytes a) 8 (length-bits_of 8 x),
      take_at (bits_of 8 y) (bits_of_bytes b) 8 (length-bits_of 8 y),
    ) in
    let rest = append_cancel_left (bits_of 8 y) (bits_of_bytes a) (bits_of_bytes b) (rw same_byte at same) in
    ap₂ ◌∷◌
    (omega (arith, number_of-bits_of 8 x, number_of-bits_of 8 y, ap number_of same_byte, are_a 0 0 (omega arith), are_b 0 0 (omega arith)))
    (bytes_of_bits a b (All-tail (λ byte. byte < 256) x a are_a) (All-tail (λ byte. byte < 256) y b are_b) rest)

pub InMode-one : (mode : Mode) (E : List ℕ → List ℕ) (iv p one other c : List ℕ) → AreBytes one
    → (mode ≡ BitFeedback → AreBytes other) → InMode mode E iv (p ++ one) c → InMode mode E iv (p ++ other) c → one ≡ other
InMode-one Counter E iv p one other c is_one is_other made again =
    append_cancel_left p one other (Xors-one bytes_undone made again)
InMode-one OutputFeedback E iv p one other c is_one is_other made again =
    append_cancel_left p one other (Xors-one bytes_undone made again)
InMode-one BitFeedback E iv p one other c is_one is_other made again =
    bytes_of_bits one other is_one (is_other refl) (append_cancel_left (bits_of_bytes p) _ _
    (rw (bits-append p one, bits-append p other) at (Xors-one bits_undone made again)))
InMode-one (CipherFeedback s) E iv p one other c is_one is_other made again =
    append_cancel_left p one other (Xors-one bytes_undone made again)

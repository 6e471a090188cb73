-- Streams mode by mode: where they begin.
use Rattle.std.proofs.Common.{◌≡◌, ℕ, ◌≤◌, List, [], ap, sym, arith, ◌∙◌}
use Rattle.std.proofs.Math.Nat.{zero-mod}
use Rattle.std.proofs.lemmas.Bool.Decides.{nat_tests}
use Rattle.std.proofs.lemmas.List.{append-nil}
use Rattle.std.specs.Int.{w64, from_be_bytes}
use Rattle.des.specs.Bits.{bits_of_bytes}
use Rattle.des.specs.Blocks.{IsBlock}
use Rattle.des.specs.Laws.BlockBits.{from_be_bytes-lt}
use Rattle.des_modes.specs.Modes.{InMode, IsMode, mode_by}
use Rattle.des_modes.specs.States.{IsPlace, size_of}
use Rattle.des_modes.specs.declared.modes.Mode.{Mode}
use Rattle.des_modes.specs.declared.modes.Mode.TheVariants.{Counter, OutputFeedback, BitFeedback, CipherFeedback}
use Rattle.des_modes.specs.declared.place.Place.{Place}
use Rattle.des_modes.proofs.Pieces.{Xors-none}

-- the mode of a number takes 1 to 8 bytes of an output block
pub size_of-mode_by : (number : ℕ) → IsMode number → (1 ≤ size_of (mode_by number)) × (size_of (mode_by number) ≤ 8)
size_of-mode_by number is = grind (arith, nat_tests)

pub InMode-none : (mode : Mode) (encryption : List ℕ → List ℕ) (iv : List ℕ) → InMode mode encryption iv [] []
unfolding bits_of_bytes
InMode-none Counter encryption iv = Xors-none 0 _
InMode-none OutputFeedback encryption iv = Xors-none 0 _
InMode-none BitFeedback encryption iv = Xors-none 0 _
InMode-none (CipherFeedback s) encryption iv = Xors-none 0 _

pub IsPlace-begin : (mode : Mode) (encryption : List ℕ → List ℕ) (iv : List ℕ) (place : Place)
    → IsBlock iv → place.register ≡ iv → place.used ≡ 0 → IsPlace mode encryption iv [] place
unfolding bits_of_bytes
IsPlace-begin Counter encryption iv place is_block begins unused =
    (omega (arith, from_be_bytes-lt iv is_block, ap (from_be_bytes w64) begins), unused)
IsPlace-begin OutputFeedback encryption iv place is_block begins unused = (begins, unused)
IsPlace-begin BitFeedback encryption iv place is_block begins unused = (rw begins (sym (append-nil (bits_of_bytes iv))), unused)
IsPlace-begin (CipherFeedback s) encryption iv place is_block begins unused =
    record { register = begins ∙ sym (append-nil iv); used = unused ∙ sym (zero-mod s); output = λ more. absurd (omega arith) }
